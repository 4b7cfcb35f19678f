-- Laws of writing: one digit more, and one text after another.
use Rattle.lists.proofs.Base.{ℕ, zero, suc, ◌+◌, ◌-◌, ◌*◌, ◌/◌, ◌%◌, ◌^◌, ◌<◌, ◌≤◌, ◌≡◌, refl, sym, ap, ap₂, ◌∙◌, subst, List, [], ◌∷◌}
use Rattle.lists.proofs.Base.{◌++◌, append_assoc, append-nil, arith, add-zero, zero-add, add-one, length, set, length-append, sets}
use Rattle.lists.specs.Writes.{over}
use Rattle.lists.proofs.Writes.{over_none, over-next}
use Rattle.judge_printing.specs.{Page.page, Page.onto, Hex.digit, Hex.hex}
use Rattle.judge_printing.specs.inner.Written.{Wrote}

pub length-hex : (d v : ℕ) → length (hex d v) ≡ d
unfolding hex
length-hex zero v = refl
length-hex (suc d) v = ap suc (length-hex d v)

-- the next digit is stored
pub hex-next : (l : List ℕ) (at count i v d : ℕ) → i < count → d ≡ digit (v / 2 ^ (4 * (count - i - 1)) % 16) →
    sets l (at + i) (hex (count - i) v) ≡ sets (set l (at + i) d) (at + (i + 1)) (hex (count - (i + 1)) v)
unfolding hex
hex-next l at count i v d h e =
    let a : count - i ≡ suc (count - (i + 1)) = omega arith in
    let b : count - i - 1 ≡ count - (i + 1) = omega arith in
    let f : at + (i + 1) ≡ suc (at + i) = omega arith in rw (e, b, a, f)

pub hex-start : (l : List ℕ) (at count v : ℕ) → sets l (at + 0) (hex (count - 0) v) ≡ sets l at (hex count v)
hex-start l at count v = let a : at + 0 ≡ at = omega arith in let b : count - 0 ≡ count = omega arith in rw (a, b)

pub hex-done : (l : List ℕ) (at count i v : ℕ) → count ≤ i → sets l (at + i) (hex (count - i) v) ≡ l
unfolding hex
hex-done l at count i v h = let a : count - i ≡ 0 = omega arith in rw a

pub hex-wrote : {old new : List ℕ} (at count v next : ℕ) → new ≡ sets old at (hex count v) → next ≡ at + count → Wrote old at count (hex count v) new next
hex-wrote at count v next e f = record { size_is = length-hex count v; next-is = f; new_is = e }

sets-append : (xs ys l : List ℕ) (i : ℕ) → sets l i (xs ++ ys) ≡ sets (sets l i xs) (i + length xs) ys
sets-append [] ys l i = ap (λ (j : ℕ). sets l j ys) (sym (add-zero i))
sets-append (x ∷ xs) ys l i =
    let e : suc i + length xs ≡ i + suc (length xs) = omega arith in
    sets-append xs ys (set l i x) (suc i) ∙ ap (λ (j : ℕ). sets (sets (set l i x) (suc i) xs) j ys) e

-- one text after another
pub wrote_then : {a b c xs ys : List ℕ} {i j k m n : ℕ} → Wrote a i m xs b j → Wrote b j n ys c k → Wrote a i (m + n) (xs ++ ys) c k
wrote_then {a} {b} {c} {xs} {ys} {i} {j} {k} {m} {n} v w = record {
  size_is = length-append xs ys ∙ ap₂ (λ (x y : ℕ). x + y) v.size_is w.size_is;
  next-is = let e = v.next-is in let f = w.next-is in omega arith;
  new_is =
      let e : j ≡ i + length xs = v.next-is ∙ ap (λ (x : ℕ). i + x) (sym v.size_is) in
      w.new_is ∙ ap₂ (λ (l : List ℕ) (x : ℕ). sets l x ys) v.new_is e ∙ sym (sets-append xs ys a i);
}

-- the same text in other words
pub wrote_as : {old new xs ys : List ℕ} {at size next : ℕ} → xs ≡ ys → Wrote old at size xs new next → Wrote old at size ys new next
wrote_as {old} {new} {xs} {ys} {at} {size} {next} e w = subst (λ (text : List ℕ). Wrote old at size text new next) e w

-- ---- at the front of a slice

sets-front : (old text done : List ℕ) → length done + length text ≤ length old → sets (over done old) (length done) text ≡ over (done ++ text) old
sets-front old [] done h = ap (λ (t : List ℕ). over t old) (sym (append-nil done))
sets-front old (x ∷ text) done h =
    let one : length (done ++ (x ∷ [])) ≡ suc (length done) = length-append done (x ∷ []) ∙ add-one (length done) in
    let room : length (done ++ (x ∷ [])) + length text ≤ length old = omega (arith, one, h) in
    ap₂ (λ (l : List ℕ) (i : ℕ). sets l i text) (over-next done old refl refl refl (omega arith)) (sym one)
    ∙ sets-front old text (done ++ (x ∷ [])) room ∙ ap (λ (t : List ℕ). over t old) (append_assoc done (x ∷ []) text)

-- the whole of it
pub wrote-onto : {old new text : List ℕ} {size next : ℕ} → size ≤ length old → Wrote old 0 size text new next → page next new ≡ onto text old
unfolding onto
wrote-onto {old} {new} {text} {size} {next} h w =
    let n : next ≡ length text = w.next-is ∙ zero-add size ∙ sym w.size_is in
    let b : new ≡ over text old = w.new_is ∙ ap (λ (l : List ℕ). sets l 0 text) (sym (over_none old)) ∙ sets-front old text [] (omega (arith, w.size_is, h)) in
    λ i. record { size = n i; bytes = b i }
