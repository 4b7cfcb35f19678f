-- After a call of `read_lot`: the lot is what the fronts of the slices hold, or the text is refused.
use Rattle.lists.proofs.Base.{ℕ, ◌*◌, ◌≡◌, refl, sym, ap, ◌∙◌, List, arith, length, take, Float}
use Rattle.lists.specs.Writes.{over}
use Rattle.lists.proofs.Writes.{take-over}
use Rattle.outcome.specs.declared.Refusal.{Refusal}
use Rattle.outcome.specs.{Numbers.number, Outcome.Outcome, Outcome.answered, Outcome.refused, Outcome.and_then}
use Rattle.lot.specs.Lot.{Lot, lot_of}
use Rattle.judge_frames.specs.Frames.{read_lot}
use Rattle.judge_frames.specs.Call.{no_numbers, no_distances, Called, held, header_of, leaves, read_call, called, fronts}
use Rattle.judge_frames.specs.Fits.{Fits}
use Rattle.judge_frames.specs.declared.Header.{Header}
use Rattle.std.specs.Prelude.{Ok, Err}
use Rattle.judge_frames.proofs.Fits.{read_fits}

front : {A : Type 0} (part old : List A) {l : List A} {k n : ℕ} → l ≡ over part old → length part ≡ k → n ≡ k → part ≡ take n l
front part old {l} {k} {n} e len same = sym (ap (take n) e ∙ take-over part old n (len ∙ sym same))

module _ {h : Header} {l s : List ℕ} {d : List Float} where
  fronts-of : (lot : Lot) → Fits lot → called (Ok h) l s d ≡ leaves (answered lot) → lot ≡ fronts h l s d
  unfolding leaves held and_then
  fronts-of lot f e =
      let a = ap (λ (c : Called). c.answer) e in
      let same : h ≡ header_of lot = cc in
      let n : h.n ≡ lot.n = ap (λ (h : Header). h.n) same in
      let stratified : h.stratified ≡ lot.stratified = ap (λ (h : Header). h.stratified) same in
      let distances : lot.distances ≡ take (h.n * h.n) d = front lot.distances no_distances (ap (λ (c : Called). c.distances) e) f.distances (ap (λ (k : ℕ). k * k) n) in
      let labels : lot.labels ≡ take h.n l = front lot.labels no_numbers (ap (λ (c : Called). c.labels) e) f.labels n in
      let strata : lot.strata ≡ take h.n s = front lot.strata no_numbers (ap (λ (c : Called). c.strata) e) f.strata n in
      λ i. lot_of (sym n i) (distances i) (labels i) (sym stratified i) (strata i) (f.unweighted i) (f.weights i)

  read_by : (o : Outcome Lot) → ((lot : Lot) → o ≡ answered lot → Fits lot) → called (Ok h) l s d ≡ leaves o → o ≡ answered (fronts h l s d)
  unfolding leaves and_then
  read_by (answered lot) fits e = ap answered (fronts-of lot (fits lot refl) e)
  read_by (refused r) fits e = let a = ap (λ (c : Called). c.answer) e in let z : ◌≡◌ {A = ℕ} 0 1 = cc in absurd (omega arith)

  pub read-fronts : (text : List ℕ) → called (Ok h) l s d ≡ read_call text → read_lot text ≡ answered (fronts h l s d)
  unfolding read_call
  read-fronts text e = read_by (read_lot text) (read_fits text) e

refused-by : (o : Outcome Lot) (x : Refusal) {l s : List ℕ} {d : List Float} → called (Err x) l s d ≡ leaves o → o ≡ refused (number x)
unfolding leaves and_then
refused-by (answered lot) x e = let a = ap (λ (c : Called). c.answer) e in let z : ◌≡◌ {A = ℕ} 0 1 = cc in absurd (omega arith)
refused-by (refused r) x e = let a = ap (λ (c : Called). c.answer) e in cc

pub read-refused : (text : List ℕ) (x : Refusal) {l s : List ℕ} {d : List Float} → called (Err x) l s d ≡ read_call text → read_lot text ≡ refused (number x)
unfolding read_call
read-refused text x e = refused-by (read_lot text) x e
