-- Strata are named by first appearance, and numbered: one sample more.
use Rattle.lists.proofs.Base.{◌≡◌, refl, sym, ap, ap₂, ◌∙◌, Bool, true, false, not, cond, ℕ, zero, ◌+◌, ◌<◌, ◌≤◌, add-zero, arith, eq-eqb, ne_eqb, eqb-true}
use Rattle.lists.proofs.Base.{eqb-false, eqb, length, get_or, take, drop, set, replicate, length-append, length-map, length-take-le, take_all}
use mathlib.Core.List.{List, [], ◌∷◌, ◌++◌, map, foldl}
use Rattle.lists.specs.{Ranges.table, Filters.filter, Filters.count_if, Numbers.how_many, Numbers.contains, Numbers.position, Numbers.dedup}
use Rattle.lists.specs.Writes.{over, cleared}
use Rattle.lists.proofs.Ranges.{length-table}
use Rattle.lists.proofs.Filters.{filter-last-yes, filter-last-no, length-filter, count_if-below, count_if-append, count_if-yes, count_if-no}
use Rattle.lists.proofs.Writes.{Writing, writing-none, writing-next, writing-here, writing-all}
use Rattle.limits.specs.Limits.{none}
use Rattle.lot.specs.{Lot.Lot, Kept.gathered, Kept.kept, Kept.kept_count, Strata.named, Strata.numbered, Strata.held_strata, Strata.strata_count}
use Rattle.lot.specs.inner.{Filled.Filled, Strata.noted, Description.Stratified}
use Rattle.lists.proofs.Parts.{over-lent, over-back, get_or-either, take_more}
use Rattle.lists.proofs.Members.{see, filter-member, filter-cong}
use Rattle.lot.proofs.FilledFronts.{filled_none, filled-take, filled-as, filled_more, filled-over, filled-front}
use Rattle.lot.proofs.Samples.{front-gathered, length-gathered}

-- ---- named strata, one sample more

see-last : (xs seen : List ℕ) (x : ℕ) → foldl see seen (xs ++ (x ∷ [])) ≡ see (foldl see seen xs) x
see-last [] seen x = refl
see-last (y ∷ xs) seen x = see-last xs (see seen y) x

named-last : (held : List ℕ) (s : ℕ) (b : Bool) → eqb s none ≡ b → named (held ++ (s ∷ [])) ≡ cond b (named held) (see (named held) s)
unfolding named dedup
named-last held s true e = ap (foldl see []) (filter-last-no (λ t. not (eqb t none)) held s (ap not e))
named-last held s false e =
    ap (foldl see []) (filter-last-yes (λ t. not (eqb t none)) held s (ap not e)) ∙ see-last (filter (λ t. not (eqb t none)) held) [] s

pub named_more : (held : List ℕ) (i : ℕ) → i < length held → named (take (i + 1) held) ≡ noted (named (take i held)) (get_or held i 0)
unfolding noted
named_more held i h = ap named (take_more held i 0 h) ∙ named-last (take i held) (get_or held i 0) (eqb (get_or held i 0) none) refl

-- ---- how many there are

see-longer : (seen : List ℕ) (x : ℕ) (b : Bool) → (length seen ≤ length (cond b seen (seen ++ (x ∷ [])))) × (length (cond b seen (seen ++ (x ∷ []))) ≤ length seen + 1)
see-longer seen x true = (omega arith, omega arith)
see-longer seen x false = let e = length-append seen (x ∷ []) in (omega arith, omega arith)

seen_few : (xs seen : List ℕ) → length (foldl see seen xs) ≤ length seen + length xs
seen_few [] seen = omega arith
seen_few (x ∷ xs) seen = omega (arith, seen_few xs (see seen x), see-longer seen x (contains x seen))

pub length-named : (held : List ℕ) → length (named held) ≤ length held
unfolding named dedup
length-named held = let p : ℕ → Bool = λ s. not (eqb s none) in omega (arith, seen_few (filter p held) [], length-filter p held, count_if-below p held)

noted-longer : (ns : List ℕ) (s : ℕ) (b : Bool) → length ns ≤ length (cond b ns (see ns s))
noted-longer ns s true = omega arith
noted-longer ns s false = (see-longer ns s (contains s ns)).0

length-noted : (ns : List ℕ) (s : ℕ) → length ns ≤ length (noted ns s)
unfolding noted
length-noted ns s = noted-longer ns s (eqb s none)

-- ---- one stratum noted at place k: it is none, it stands there, or it is new

module _ (l : List ℕ) (k s : ℕ) (h : k < length l) where
  pub note-none : s ≡ none → Filled (noted (take k l) s) l l k
  unfolding noted
  note-none e = rw (eq-eqb s none e) (filled-take l k (omega arith))

  pub note-seen : (s ≡ none → ⊥) → contains s (take k l) ≡ true → Filled (noted (take k l) s) l l k
  unfolding noted
  note-seen d e = rw (ne_eqb s none d, e) (filled-take l k (omega arith))

  pub note-new : (s ≡ none → ⊥) → contains s (take k l) ≡ false → Filled (noted (take k l) s) l (set l k s) (k + 1)
  unfolding noted
  note-new d e = rw (ne_eqb s none d, e) (filled_more l (filled-take l k (omega arith)) refl h)

-- ---- the loop that names them

pub naming-none : (held old : List ℕ) → Filled (named (take 0 held)) old old 0
unfolding named dedup filter
naming-none held old = filled_none old

module _ (held old : List ℕ) (i : ℕ) (h : i < length held) {ns : List ℕ} {k : ℕ} (f : Filled (named (take i held)) old ns k) where
  pub naming-room : k < length held
  naming-room = omega (arith, f.many, length-named (take i held), length-take-le i held (omega arith))

  pub naming-turn : {ns' : List ℕ} {k' : ℕ} → Filled (noted (take k ns) (get_or held i 0)) ns ns' k' → Filled (named (take (i + 1) held)) old ns' k'
  naming-turn {ns'} {k'} f' =
      let s = get_or held i 0 in
      filled-as old (sym (named_more held i h))
      (filled-over old f (filled-as ns (ap (λ (t : List ℕ). noted t s) (filled-front old f)) f') (length-noted (named (take i held)) s))

-- ---- numbers

-- the number of the sample k
abbrev pub number_at : List ℕ → List ℕ → ℕ → ℕ
number_at held ns k = cond (eqb (get_or held k none) none) (length ns + how_many none (take k held)) (position (get_or held k none) ns)

-- k samples have their numbers, and `next` is that of the next sample with none
pub record Numbering (held ns now : List ℕ) (next k : ℕ) : Type 0 where
  pub written : Writing (number_at held ns) held now k
  pub upto : next ≡ length ns + how_many none (take k held)

module _ (held ns : List ℕ) where
  pub numbering-none : Numbering held ns held (length ns) 0
  unfolding how_many count_if
  numbering-none = record { written = writing-none (number_at held ns) held; upto = sym (add-zero (length ns)) }

  module _ {now : List ℕ} {next k : ℕ} (n : Numbering held ns now next k) (h : k < length held) where
    stood : get_or now k 0 ≡ get_or held k none
    stood = writing-here (number_at held ns) held 0 n.written ∙ get_or-either held k 0 none h

    counted : (b : Bool) → eqb none (get_or held k none) ≡ b → how_many none (take (k + 1) held) ≡ how_many none (take k held) + cond b 1 0
    unfolding how_many count_if
    counted b e = ap (count_if (eqb none)) (take_more held k none h) ∙ count_if-append (eqb none) (take k held) (get_or held k none ∷ [])
        ∙ ap (λ (m : ℕ). count_if (eqb none) (take k held) + m) (one b e)
      where
        one : (b : Bool) → eqb none (get_or held k none) ≡ b → count_if (eqb none) (get_or held k none ∷ []) ≡ cond b 1 0
        one true e = count_if-yes (eqb none) (get_or held k none) [] e
        one false e = count_if-no (eqb none) (get_or held k none) [] e

    pub next_fits : next ≤ length ns + k
    unfolding how_many
    next_fits = omega (arith, n.upto, count_if-below (eqb none) (take k held), length-take-le k held (omega arith))

    pub numbering-alone : {now' : List ℕ} {next' : ℕ} → get_or now k 0 ≡ none → now' ≡ set now k next → next' ≡ next + 1 → Numbering held ns now' next' (k + 1)
    numbering-alone is at one =
        let e : get_or held k none ≡ none = sym stood ∙ is in
        rw (at, one) (record {
          written = writing-next (number_at held ns) held n.written h
              (n.upto ∙ sym (ap (λ (b : Bool). cond b (length ns + how_many none (take k held)) (position (get_or held k none) ns)) (eq-eqb _ _ e)));
          upto = omega (arith, n.upto, counted true (eq-eqb _ _ (sym e)));
        })

    pub numbering-named : {now' : List ℕ} {next' p : ℕ} → (get_or now k 0 ≡ none → ⊥) → p ≡ position (get_or now k 0) ns → now' ≡ set now k p →
        next' ≡ next → Numbering held ns now' next' (k + 1)
    numbering-named other is at one =
        let d : get_or held k none ≡ none → ⊥ = λ e. other (stood ∙ e) in
        rw (at, one) (record {
          written = writing-next (number_at held ns) held n.written h (is ∙ ap (λ (s : ℕ). position s ns) stood
              ∙ sym (ap (λ (b : Bool). cond b (length ns + how_many none (take k held)) (position (get_or held k none) ns)) (ne_eqb _ _ d)));
          upto = omega (arith, n.upto, counted false (ne_eqb _ _ (λ e. d (sym e))));
        })

  module _ {now : List ℕ} {next k : ℕ} (n : Numbering held ns now next k) (end : length held ≤ k) (are : ns ≡ named held) where
    pub numbering-all : now ≡ numbered held
    unfolding numbered
    numbering-all = writing-all (number_at held ns) held n.written end ∙ ap (λ (ms : List ℕ). table (length held) (number_at held ms)) are

    pub numbering-count : next ≡ length (named held) + how_many none held
    numbering-count = n.upto ∙ ap₂ (λ (ms l : List ℕ). length ms + how_many none l) are (take_all k held end)

-- ---- the strata of samples, gathered and numbered, or all one

pub length-numbered : (held : List ℕ) → length (numbered held) ≡ length held
unfolding numbered
length-numbered held = length-table (number_at held (named held)) (length held)

module _ (given ks out : List ℕ) {stratified : Bool} {r : List ℕ} where
  pub stratified-numbered : {out' : List ℕ} {n : ℕ} → stratified ≡ true → out' ≡ over (gathered given ks) out → r ≡ numbered (take (length ks) out')
      → n ≡ length (named (take (length ks) out')) + how_many none (take (length ks) out') → Stratified stratified given ks out (r ++ drop (length ks) out') n
  stratified-numbered {out'} {n} is gathers e c =
      let held = gathered given ks in
      let front : take (length ks) out' ≡ held = front-gathered given ks out gathers in
      let whole : r ≡ numbered held = e ∙ ap numbered front in
      let many : length r ≡ length ks = ap length whole ∙ length-numbered held ∙ length-gathered given ks in
      rw is (record {
        numbers = over-back held out r gathers (length-gathered given ks) many ∙ ap (λ (t : List ℕ). over t out) whole;
        count = c ∙ ap (λ (t : List ℕ). length (named t) + how_many none t) front;
      })

  pub stratified-one : stratified ≡ false → length ks ≤ length out → r ≡ cleared 0 (take (length ks) out) → Stratified stratified given ks out (r ++ drop (length ks) out) 1
  unfolding cleared
  stratified-one is room e =
      let zeros : r ≡ map (λ (i : ℕ). 0) ks = e ∙ ap (λ (n : ℕ). replicate n 0) (length-take-le (length ks) out room) ∙ sym (zeros-map ks) in
      let many : length r ≡ length ks = ap length zeros ∙ length-map ks (λ (i : ℕ). zero) in
      rw is (record { numbers = over-lent r out many ∙ ap (λ (t : List ℕ). over t out) zeros; count = refl })
    where
      zeros-map : (l : List ℕ) → map {B = ℕ} (λ (i : ℕ). 0) l ≡ replicate (length l) 0
      zeros-map [] = refl
      zeros-map (x ∷ l) = ap (λ (t : List ℕ). 0 ∷ t) (zeros-map l)

-- ---- strata are at most as many as the samples

filter-all : {A : Type 0} (xs : List A) → filter (λ x. true) xs ≡ xs
unfolding filter
filter-all [] = refl
filter-all (x ∷ xs) = ap (λ t. x ∷ t) (filter-all xs)

-- those that are named and those that are none are all
named_none : (held : List ℕ) → count_if (λ s. not (eqb s none)) held + how_many none held ≡ length held
unfolding count_if how_many
named_none [] = refl
named_none (s ∷ held) = by (eqb s none) refl (named_none held)
  where
    by : (b : Bool) → eqb s none ≡ b → count_if (λ s. not (eqb s none)) held + count_if (eqb none) held ≡ length held
        → (cond (not (eqb s none)) 1 0 + count_if (λ s. not (eqb s none)) held) + (cond (eqb none s) 1 0 + count_if (eqb none) held) ≡ length (s ∷ held)
    by true e h = rw (e, eq-eqb none s (sym (eqb-true s none e))) (omega (arith, h))
    by false e h = rw (e, ne_eqb none s (λ f. eqb-false s none e (sym f))) (omega (arith, h))

pub named-few : (held : List ℕ) → length (named held) + how_many none held ≤ length held
unfolding named
named-few held =
    let p : ℕ → Bool = λ s. not (eqb s none) in
    let again : filter p (filter p held) ≡ filter p held = filter-cong p (λ s. true) (filter p held) (λ s m. (filter-member p held s m).0) ∙ filter-all (filter p held) in
    omega (arith, length-named (filter p held), ap (λ l. length (dedup l)) again, length-filter p held, named_none held)

pub strata-few : (lot : Lot) → kept_count lot.labels ≤ 256 → strata_count lot ≤ 256
unfolding strata_count held_strata kept_count
strata-few lot h = by lot.stratified
  where
    by : (b : Bool) → cond b (length (named (held_strata lot)) + how_many none (held_strata lot)) 1 ≤ 256
    by true = omega (arith, named-few (held_strata lot), length-gathered lot.strata (kept lot.labels))
    by false = omega arith
