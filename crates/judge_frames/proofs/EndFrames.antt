-- Whether the frames from a place on are the end.
use Rattle.lists.proofs.Base.{ℕ, suc, ◌+◌, ◌≡◌, refl, sym, ap, ◌∙◌, Bool, true, false, ◌&&◌, List, [], ◌∷◌, map, arith, eqb, leb, length, drop}
use Rattle.std.specs.Prelude.{Option, Some, None}
use borrow.Author.Tests.{ne_eqb, leb-true, leb-false}
use Rattle.lists.specs.Filters.{first_at}
use Rattle.judge_frames.specs.declared.reader.Frame.{Frame}
use Rattle.judge_frames.specs.declared.reader.Frame.TheVariants.{Header as OfHeader, Sample as OfSample, Pair as OfPair, End}
use Rattle.judge_frames.specs.{Frame.frame, TextLines.feed, TextLines.text_lines, Places.head, Places.tail, Places.closes, Places.is_end}
use Rattle.judge_frames.specs.inner.Places.{frames_from, IsLine}
use Rattle.judge_frames.proofs.TextLines.{lines-past, lines_from}

closes_as : (fs : List (Option Frame)) {f : Option Frame} → f ≡ head fs → (closes f && eqb (length (tail fs)) 0) ≡ is_end fs
unfolding head tail is_end
closes_as [] e = rw e refl
closes_as (g ∷ fs) e = rw e refl

none_left : (text : List ℕ) (at : ℕ) (b : Bool) → leb (length text) at ≡ b → b ≡ eqb (length (frames_from text at)) 0
unfolding frames_from
none_left text at true t = sym (ap (λ (ls : List (List ℕ)). eqb (length (map frame ls)) 0) (lines-past text at (leb-true (length text) at t)))
none_left text at false t =
    let e = at + first_at feed (drop at text) in
    sym (ap (λ (ls : List (List ℕ)). eqb (length (map frame ls)) 0) (lines_from text at e (leb-false (length text) at t) refl)
    ∙ ne_eqb (suc (length (map frame (text_lines (drop (e + 1) text))))) 0 (λ z. omega arith))

module _ {text : List ℕ} {at : ℕ} {o : Option Frame} {next : ℕ} (l : IsLine text at o next) where
  ends : (b : Bool) → closes o ≡ b → (b && leb (length text) next) ≡ is_end (frames_from text at)
  ends b e = ap (λ (c : Bool). c && leb (length text) next) (sym e)
      ∙ ap (λ (c : Bool). closes o && c) (none_left text next (leb (length text) next) refl ∙ ap (λ (fs : List (Option Frame)). eqb (length fs) 0) l.the_rest)
      ∙ closes_as (frames_from text at) l.its-frame

  pub no-line : o ≡ None → false ≡ is_end (frames_from text at)
  no-line e = ends false (ap closes e)

  module _ {f : Frame} (e : o ≡ Some f) where
    pub the_end : f ≡ End → leb (length text) next ≡ is_end (frames_from text at)
    the_end g = ends true (ap closes (e ∙ ap Some g))

    pub not-the-end : (f ≡ End → ⊥) → false ≡ is_end (frames_from text at)
    not-the-end n = ends false (ap closes e ∙ other f n)
      where
        other : (f : Frame) → (f ≡ End → ⊥) → closes (Some f) ≡ false
        other (OfHeader h) n = refl
        other (OfSample s) n = refl
        other (OfPair p) n = refl
        other End n = absurd (n refl)
