-- A place drawn is below its bound; one swap by what its parts gave, a stratum's swaps from its last position down, and the parts in turn.
use Rattle.lists.proofs.Base.{◌≡◌, refl, sym, ap, subst, ◌∙◌, List, ℕ, zero, suc, ◌+◌, ◌-◌, ◌<◌, ◌≤◌, mod-lt, arith, length, get_or, set}
use Rattle.lists.specs.Loops.{in_turn}
use Rattle.lists.proofs.Loops.{in_turn-none, in_turn-next, down_to-none, down_to-next, down_to-all}
use Rattle.grouping.specs.inner.Parts.{part}
use Rattle.splitmix.specs.SplitMix.{advance, mix}
use Rattle.shuffle.specs.Shuffle.{Shuffling, seeded, draw_below, swapped, swap_drawn, shuffle_stratum}
use Rattle.shuffle.specs.inner.{Shuffle.shuffling, Parted.after_shuffle_by}

-- a place drawn is below its bound
pub place-below : (s : ℕ) {bound p : ℕ} → 0 < bound → p ≡ (draw_below s bound).place → p < bound
unfolding draw_below
place-below s {bound} some e = subst (λ (n : ℕ). n < bound) (sym e) (mod-lt (mix (advance s)) some)

pub swapped-drawn : (stratum lab lab' : List ℕ) (i s : ℕ) {s' p x y : ℕ} → s' ≡ (draw_below s (i + 1)).state → p ≡ (draw_below s (i + 1)).place
    → x ≡ get_or stratum i 0 → y ≡ get_or stratum p 0 → lab' ≡ set (set lab x (get_or lab y 0)) y (get_or lab x 0) → shuffling s' lab' ≡ swap_drawn stratum i (shuffling s lab)
unfolding swap_drawn swapped
swapped-drawn stratum lab lab' i s es ep ex ey el = rw (el, ey, ex, ep, es)

-- the swaps at position i and above are made, from `start` on
pub record StratumShuffled (stratum : List ℕ) (start d : Shuffling) (i : ℕ) : Type 0 where
  pub most : i ≤ length stratum
  pub some : 1 ≤ length stratum → 1 ≤ i
  pub long : length d.labels ≡ length start.labels
  pub held : d ≡ in_turn (λ j. swap_drawn stratum (length stratum - (j + 1))) (length stratum - i) start

module _ (stratum : List ℕ) (start : Shuffling) where
  pub stratum-shuffled-none : StratumShuffled stratum start start (length stratum)
  stratum-shuffled-none = record { most = omega arith; some = λ h. h; long = refl; held = down_to-none (swap_drawn stratum) (length stratum) start }

  pub stratum-shuffled-next : {d d' : Shuffling} {i : ℕ} → StratumShuffled stratum start d i → 1 < i → length d'.labels ≡ length d.labels → d' ≡ swap_drawn stratum (i - 1) d
      → StratumShuffled stratum start d' (i - 1)
  stratum-shuffled-next {d} {d'} {i} w h long turn =
      let back : i ≡ i - 1 + 1 = omega arith in
      let before = w.held ∙ ap (λ (k : ℕ). in_turn (λ j. swap_drawn stratum (length stratum - (j + 1))) (length stratum - k) start) back in
      record {
        most = omega (arith, w.most);
        some = λ _. omega arith;
        long = long ∙ w.long;
        held = down_to-next (swap_drawn stratum) (length stratum) (i - 1) start (omega (arith, w.most)) before turn;
      }

  pub stratum-shuffled-all : {d : Shuffling} {i : ℕ} → StratumShuffled stratum start d i → i ≤ 1 → d ≡ shuffle_stratum stratum start
  unfolding shuffle_stratum
  stratum-shuffled-all {d} {i} w h = down_to-all (swap_drawn stratum) 1 (length stratum) start
      (w.held ∙ ap (λ (k : ℕ). in_turn (λ j. swap_drawn stratum (length stratum - (j + 1))) k start) (last (length stratum) w.most w.some))
    where
      last : (v : ℕ) → i ≤ v → (1 ≤ v → 1 ≤ i) → v - i ≡ v - 1
      last zero m s = omega arith
      last (suc v) m s = omega (arith, s (omega arith))

-- ---- the parts in turn

-- the first k of s parts are shuffled, from `start` on
pub record PartsShuffled (next mem : List ℕ) (s : ℕ) (start d : Shuffling) (k : ℕ) : Type 0 where
  pub most : k ≤ s
  pub long : length d.labels ≡ length start.labels
  pub held : d ≡ in_turn (λ j. shuffle_stratum (part next mem j)) k start

module _ {next mem : List ℕ} {s : ℕ} {start : Shuffling} where
  pub parts-shuffled-none : PartsShuffled next mem s start start 0
  parts-shuffled-none = record { most = omega arith; long = refl; held = in_turn-none (λ j. shuffle_stratum (part next mem j)) start }

  pub parts-shuffled-next : {d d' : Shuffling} {k : ℕ} → PartsShuffled next mem s start d k → k < s → length d'.labels ≡ length d.labels →
      d' ≡ shuffle_stratum (part next mem k) d → PartsShuffled next mem s start d' (k + 1)
  parts-shuffled-next {d} {d'} {k} w h long turn =
      record { most = omega arith; long = long ∙ w.long; held = in_turn-next (λ j. shuffle_stratum (part next mem j)) k start w.held turn }

  pub parts-shuffled-all : {d : Shuffling} {k : ℕ} → PartsShuffled next mem s start d k → s ≤ k → d ≡ in_turn (λ j. shuffle_stratum (part next mem j)) s start
  parts-shuffled-all {d} {k} w h =
      let all : k ≡ s = omega (arith, w.most) in subst (λ (n : ℕ). d ≡ in_turn (λ j. shuffle_stratum (part next mem j)) n start) all w.held

module _ (next mem : List ℕ) (s seed t : ℕ) where
  pub after_shuffle-again : {gs lab lab' : List ℕ} {state r : ℕ} → state ≡ seeded seed t → lab ≡ gs
      → shuffling r lab' ≡ in_turn (λ k. shuffle_stratum (part next mem k)) s (shuffling state lab) → shuffling r lab' ≡ after_shuffle_by next mem s gs seed t
  unfolding after_shuffle_by
  after_shuffle-again es el e = e ∙ (λ i. in_turn (λ k. shuffle_stratum (part next mem k)) s (record { state = es i; labels = el i }))
