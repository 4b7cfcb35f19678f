-- A stratum informs if one of its samples is in another group than a given one of them.
use Rattle.lists.proofs.Base.{◌≡◌, refl, sym, ap, ◌∙◌, Bool, true, false, not, ◌&&◌, ℕ, ◌<◌, ◌≤◌, arith, eqb-true}
use Rattle.lists.proofs.Base.{eqb-false, eq-eqb, ne_eqb, not-true, not-false, eqb, length, get_or}
use mathlib.Core.List.{List, Memᴰ as Member}
use Rattle.lists.specs.{Ranges.range, Filters.any, Numbers.in_group, Numbers.members}
use Rattle.lot.specs.{Strata.informs, Strata.informative, Way.tally}
use Rattle.lot.proofs.Tallies.{Counted, tally-own, tally-some}
use Rattle.lists.proofs.Truths.{and_both, both_ways}
use Rattle.lists.proofs.Members.{member-range, range-member, member_filter, filter-member, member-any, any-member, none_any, any-fails}
use Rattle.lists.proofs.{Filters.count_if-below, Ranges.length-range}

-- the sample b is of stratum s and not in group g
abbrev pub other : List ℕ → List ℕ → ℕ → ℕ → ℕ → Bool
other ss gs s g b = eqb (get_or ss b 0) s && not (eqb (get_or gs b 0) g)

-- of a stratum that the sample k is in
module _ (ss gs : List ℕ) (m k : ℕ) (h : k < m) where
  abbrev s : ℕ
  s = get_or ss k 0

  abbrev g : ℕ
  g = get_or gs k 0

  in-stratum : (b : ℕ) → b < m → eqb (get_or ss b 0) s ≡ true → Member b (members ss m s)
  unfolding members
  in-stratum b l e = member_filter (in_group ss s) (range 0 m) b (range-member m b l) e

  of-stratum : (b : ℕ) → Member b (members ss m s) → (b < m) × (eqb (get_or ss b 0) s ≡ true)
  unfolding members
  of-stratum b l = let r = filter-member (in_group ss s) (range 0 m) b l in (member-range m b r.1, r.0)

  -- some sample of the stratum is in another group than k
  some-other : any (other ss gs s g) (range 0 m) ≡ true → informs ss gs m s ≡ true
  unfolding informs
  some-other e =
      let w = any-member (other ss gs s g) (range 0 m) e in
      let b = w.0 in
      let r = and_both (eqb (get_or ss b 0) s) (not (eqb (get_or gs b 0) g)) w.2 in
      let apart : not (eqb g (get_or gs b 0)) ≡ true = ap not (ne_eqb g (get_or gs b 0) (λ q. eqb-false (get_or gs b 0) g (not-true _ r.1) (sym q))) in
      member-any _ (members ss m s) k (in-stratum k h (eq-eqb s s refl))
      (member-any (λ b. not (eqb g (get_or gs b 0))) (members ss m s) b (in-stratum b (member-range m b w.1) r.0) apart)

  -- all are in the group of k
  same-group : any (other ss gs s g) (range 0 m) ≡ false → (b : ℕ) → Member b (members ss m s) → get_or gs b 0 ≡ g
  same-group e b l =
      let r = of-stratum b l in
      let t = any-fails (other ss gs s g) (range 0 m) e b (range-member m b r.0) in
      eqb-true (get_or gs b 0) g (not-false _ (ap (λ (a : Bool). a && not (eqb (get_or gs b 0) g)) (sym r.1) ∙ t))

  no_other : any (other ss gs s g) (range 0 m) ≡ false → informs ss gs m s ≡ false
  unfolding informs
  no_other e = none_any _ (members ss m s) (λ a l. none_any _ (members ss m s) (λ b n.
      ap not (eq-eqb (get_or gs a 0) (get_or gs b 0) (same-group e a l ∙ sym (same-group e b n)))))

  pub informs-other : any (other ss gs s g) (range 0 m) ≡ informs ss gs m s
  informs-other = one (any (other ss gs s g) (range 0 m)) refl
    where
      one : (b : Bool) → any (other ss gs s g) (range 0 m) ≡ b → b ≡ informs ss gs m s
      one true e = sym (some-other e)
      one false e = sym (no_other e)

-- ---- whether a stratum informs is decided by its counts

-- two samples of the stratum s in different groups
record Differing (ss gs : List ℕ) (m s : ℕ) : Type 0 where
  a : ℕ
  b : ℕ
  a-there : a < m
  b_there : b < m
  a_in : get_or ss a 0 ≡ s
  b-in : get_or ss b 0 ≡ s
  apart : get_or gs a 0 ≡ get_or gs b 0 → ⊥

differing-informs : (ss gs : List ℕ) (m s : ℕ) → Differing ss gs m s → informs ss gs m s ≡ true
unfolding informs members
differing-informs ss gs m s d =
    member-any _ (members ss m s) d.a (member_filter (in_group ss s) (range 0 m) d.a (range-member m d.a d.a-there) (eq-eqb _ _ d.a_in))
    (member-any (λ b. not (eqb (get_or gs d.a 0) (get_or gs b 0))) (members ss m s) d.b
    (member_filter (in_group ss s) (range 0 m) d.b (range-member m d.b d.b_there) (eq-eqb _ _ d.b-in)) (ap not (ne_eqb _ _ d.apart)))

informs-differing : (ss gs : List ℕ) (m s : ℕ) → informs ss gs m s ≡ true → Differing ss gs m s
unfolding informs members
informs-differing ss gs m s e =
    let v = any-member _ (members ss m s) e in
    let w = any-member (λ b. not (eqb (get_or gs v.0 0) (get_or gs b 0))) (members ss m s) v.2 in
    let p = filter-member (in_group ss s) (range 0 m) v.0 v.1 in
    let q = filter-member (in_group ss s) (range 0 m) w.0 w.1 in
    record {
      a = v.0;
      b = w.0;
      a-there = member-range m v.0 p.1;
      b_there = member-range m w.0 q.1;
      a_in = eqb-true _ _ p.0;
      b-in = eqb-true _ _ q.0;
      apart = eqb-false _ _ (not-true _ w.2);
    }

-- two samples that differ, of labels with the same counts
differing-same : (ss gs hs : List ℕ) (m s : ℕ) → length ss ≡ m → length gs ≡ m → length hs ≡ m → ((s j : ℕ) → tally ss gs s j ≡ tally ss hs s j)
    → Differing ss gs m s → Differing ss hs m s
differing-same ss gs hs m s fits fit-g fit-h same d =
    let other : (i : ℕ) → i < m → get_or ss i 0 ≡ s → (k : ℕ) × Counted ss hs s (get_or gs i 0) k =
    λ i h e. tally-some ss hs s (get_or gs i 0) (omega (arith, tally-own ss gs i (omega arith) (omega arith), same (get_or ss i 0) (get_or gs i 0), ap (λ (t : ℕ). tally ss hs t (get_or gs i 0)) e)) in
    let x = other d.a d.a-there d.a_in in
    let y = other d.b d.b_there d.b-in in
    record {
      a = x.0;
      b = y.0;
      a-there = omega (arith, x.1.in_strata);
      b_there = omega (arith, y.1.in_strata);
      a_in = x.1.stratum;
      b-in = y.1.stratum;
      apart = λ e. d.apart (sym x.1.label ∙ e ∙ y.1.label);
    }

pub informs-same : (ss gs hs : List ℕ) (m : ℕ) → length ss ≡ m → length gs ≡ m → length hs ≡ m → ((s j : ℕ) → tally ss hs s j ≡ tally ss gs s j)
    → (s : ℕ) → informs ss hs m s ≡ informs ss gs m s
informs-same ss gs hs m fits fit-g fit-h same s = both_ways (informs ss hs m s) (informs ss gs m s)
    (λ e. differing-informs ss gs m s (differing-same ss hs gs m s fits fit-h fit-g same (informs-differing ss hs m s e)))
    (λ e. differing-informs ss hs m s (differing-same ss gs hs m s fits fit-g fit-h (λ s j. sym (same s j)) (informs-differing ss gs m s e)))

-- the samples that inform are at most all
pub informing-few : (ss gs : List ℕ) (m : ℕ) {a : ℕ} → a ≡ informative ss gs m → a ≤ m
unfolding informative
informing-few ss gs m e = omega (arith, e, count_if-below (λ k. informs ss gs m (get_or ss k 0)) (range 0 m), length-range 0 m)
