-- Section 8: the shuffle of labels within strata, drawn from SplitMix64. A stratum is the list of its places. Definitions only.
use Rattle.std.specs.Prelude.{ℕ, ◌+◌, ◌*◌, ◌%◌, length, get_or, set}
use mathlib.Core.List.{List, foldl}
use Rattle.std.specs.Int.Bits.{bit_xor}
use Rattle.lists.specs.Loops.{down_to}
use Rattle.splitmix.specs.SplitMix.{word, next}

-- the state that shuffle t starts from: seed xor (t times D6E8FEB86659FD93 hexadecimal, wrapping)
unfoldable pub seeded : ℕ → ℕ → ℕ
seeded seed t = bit_xor seed (t * 0xd6e8_feb8_6659_fd93 % word)

-- a generator's next state, and a place drawn
pub record Drawn : Type 0 where
  pub state : ℕ
  pub place : ℕ

-- a place below a bound: the next state, and its word mod the bound
unfoldable pub draw_below : ℕ → ℕ → Drawn
draw_below s bound = let d = next s in record { state = d.state; place = d.word % bound }

-- the entries at i and j exchanged
unfoldable pub swapped : List ℕ → ℕ → ℕ → List ℕ
swapped l i j = set (set l i (get_or l j 0)) j (get_or l i 0)

-- A generator's state and the labels that it shuffles.
pub record Shuffling : Type 0 where
  pub state : ℕ
  pub labels : List ℕ

-- what shuffle t starts from
abbrev pub begun : ℕ → ℕ → List ℕ → Shuffling
begun seed t l = record { state = seeded seed t; labels = l }

-- one swap: position i of the stratum with (draw mod (i + 1))
unfoldable pub swap_drawn : List ℕ → ℕ → Shuffling → Shuffling
swap_drawn stratum i d =
    let drawn = draw_below d.state (i + 1) in
    record { state = drawn.state; labels = swapped d.labels (get_or stratum i 0) (get_or stratum drawn.place 0) }

-- in a stratum of size v, i runs from v - 1 down to 1
unfoldable pub shuffle_stratum : List ℕ → Shuffling → Shuffling
shuffle_stratum stratum d = down_to (swap_drawn stratum) 1 (length stratum) d

-- strata go upward
unfoldable pub shuffle : List (List ℕ) → Shuffling → Shuffling
shuffle strata d = foldl (λ u stratum. shuffle_stratum stratum u) d strata
