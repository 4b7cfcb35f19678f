-- Laws of lines: the first line and the rest, and the frame at a place.
use Rattle.lists.proofs.Base.{ℕ, suc, ◌+◌, ◌-◌, ◌<◌, ◌≤◌, ◌≡◌, refl, sym, ap, ap₂, ◌∙◌, Bool, true, false, cond, List, [], ◌∷◌}
use Rattle.std.specs.Prelude.{Option, Some, None, unwrap_or}
use Rattle.std.specs.List.{position_or_len}
use Rattle.std.proofs.lemmas.List.Recursion.{is_position_or_len}
use borrow.Author.Tests.{ltb-false}
use Rattle.lists.proofs.Base.{map, min, ltb, dec_lt, arith, not-suc-le-zero, length, take, drop, length-drop, drop_of_length-le, drop-drop}
use Rattle.lists.specs.Filters.{first_at}
use Rattle.judge_frames.specs.declared.reader.Frame.{Frame}
use Rattle.judge_frames.specs.{Frame.frame, TextLines.feed, TextLines.text_lines, Places.head, Places.tail}
use Rattle.judge_frames.specs.inner.Places.{frames_from, IsLine}
use Rattle.lists.proofs.Searches.{first-within}

-- the line that c begins, or not, and the lines after it
more : Bool → ℕ → List (List ℕ) → List (List ℕ)
more b c ls = elim b as (λ b. List (List ℕ)) [
  | true ↦ [] ∷ ls
  | false ↦ elim ls as (λ ls. List (List ℕ)) [ [] ↦ (c ∷ []) ∷ [] | l ∷ ls ↦ (c ∷ l) ∷ ls ]
]

more-split : (b : Bool) (c k : ℕ) (s : List ℕ) (ls : List (List ℕ)) → ls ≡ text_lines s → ls ≡ take k s ∷ text_lines (drop (suc k) s) →
    more b c ls ≡ take (cond b 0 (suc k)) (c ∷ s) ∷ text_lines (drop (suc (cond b 0 (suc k))) (c ∷ s))
unfolding more
more-split true c k s ls e f = ap (λ (ls : List (List ℕ)). [] ∷ ls) e
more-split false c k s ls e f = ap (more false c) f

more-last : (b : Bool) (c : ℕ) → more b c [] ≡ take (cond b 0 1) (c ∷ []) ∷ text_lines (drop (suc (cond b 0 1)) (c ∷ []))
unfolding more text_lines
more-last true c = refl
more-last false c = refl

-- the lines of a text that is not empty are its first line and the lines past the line feed
lines_split : (s : List ℕ) → 0 < length s → text_lines s ≡ take (first_at feed s) s ∷ text_lines (drop (suc (first_at feed s)) s)
unfolding text_lines first_at more
lines_split [] h = absurd (not-suc-le-zero h)
lines_split (c ∷ []) h = more-last (feed c) c
lines_split (c ∷ d ∷ s) h = more-split (feed c) c (first_at feed (d ∷ s)) (d ∷ s) (text_lines (d ∷ s)) refl (lines_split (d ∷ s) (omega arith))

-- ---- the line at a place of a text

pub line-end-in : (text : List ℕ) (at : ℕ) → at ≤ length text → at + first_at feed (drop at text) ≤ length text
line-end-in text at h = let a = first-within feed (drop at text) in let b = length-drop at text in omega arith

pub lines_from : (text : List ℕ) (at e : ℕ) → at < length text → e ≡ at + first_at feed (drop at text) →
    text_lines (drop at text) ≡ take (e - at) (drop at text) ∷ text_lines (drop (e + 1) text)
lines_from text at e h f =
    let n : first_at feed (drop at text) ≡ e - at = omega arith in
    let l = length-drop at text in
    let m : at + suc (e - at) ≡ e + 1 = omega (arith, f) in
    lines_split (drop at text) (omega arith) ∙ ap₂ (λ (x y : List ℕ). x ∷ text_lines y) (ap (λ (k : ℕ). take k (drop at text)) n)
    (ap (λ (k : ℕ). drop (suc k) (drop at text)) n ∙ drop-drop (suc (e - at)) at text ∙ ap (λ (k : ℕ). drop k text) m)

pub lines-past : (text : List ℕ) (at : ℕ) → length text ≤ at → text_lines (drop at text) ≡ []
unfolding text_lines
lines-past text at h = rw (drop_of_length-le text {i = at} h)

-- ---- the frame at a place

pub line-past : (text : List ℕ) (at : ℕ) → length text ≤ at → IsLine text at None at
unfolding frames_from head tail
line-past text at h =
    let n : frames_from text at ≡ [] = ap (map frame) (lines-past text at h) in
    record { its-frame = sym (ap head n); the_rest = n ∙ sym (ap tail n) }

-- after the line feed or at the text's end
pub line-there : (text : List ℕ) (at e next : ℕ) {f : Option Frame} → at < length text → e ≡ at + first_at feed (drop at text) →
    f ≡ frame (take (e - at) (drop at text)) → frames_from text next ≡ frames_from text (e + 1) → IsLine text at f next
unfolding frames_from head tail
line-there text at e next h g k r =
    let n : frames_from text at ≡ frame (take (e - at) (drop at text)) ∷ frames_from text (e + 1) = ap (map frame) (lines_from text at e h g) in
    record { its-frame = k ∙ sym (ap head n); the_rest = r ∙ sym (ap tail n) }

-- past the line feed at e, or at the text's end
pub next-line : (text : List ℕ) (e next : ℕ) → e ≤ length text → next ≡ min (length text) (e + 1) → frames_from text next ≡ frames_from text (e + 1)
unfolding frames_from
next-line text e next h g = elim (dec_lt e (length text)) [
  | yes l ↦ ap (λ (k : ℕ). map frame (text_lines (drop k text))) (omega arith)
  | no m ↦ ap (map frame) (lines-past text next (omega arith) ∙ sym (lines-past text (e + 1) (omega arith)))
]

-- the place of the first line feed, or the length
pub first_feed : (s : List ℕ) {o : Option ℕ} → o ≡ cond (ltb (position_or_len feed s) (length s)) (Some (position_or_len feed s)) None → unwrap_or o (length s) ≡ first_at feed s
unfolding first_at
first_feed s e = ap (λ (o : Option ℕ). unwrap_or o (length s)) e ∙ by (ltb (position_or_len feed s) (length s)) refl
  where
    same : first_at feed s ≡ position_or_len feed s
    same = is_position_or_len (first_at feed) feed refl (λ x xs. ap (λ (k : ℕ). cond (feed x) 0 k) (omega arith)) s

    by : (b : Bool) → ltb (position_or_len feed s) (length s) ≡ b → unwrap_or (cond b (Some (position_or_len feed s)) None) (length s) ≡ first_at feed s
    by true t = sym same
    by false t = omega (arith, same, first-within feed s, ltb-false (position_or_len feed s) (length s) t)
