-- Sections 4 and 8: SplitMix64 (Steele, Lea and Flood 2014), and an f64 from its words. Definitions only.
use Rattle.std.specs.Prelude.{ℕ, ◌+◌, ◌*◌, ◌/◌, ◌%◌, ◌^◌, bit_xor, Float}
use Rattle.float.specs.Floats.{◌⊖◌, ◌⊘◌, num, 0·5, 2^53}
use Rattle.splitmix.specs.declared.Draw.{Draw}

-- how many words there are
abbrev pub word : ℕ
word = 2 ^ 64

-- the next state
abbrev pub advance : ℕ → ℕ
advance s = (s + 0x9e37_79b9_7f4a_7c15) % word

-- the word that a state gives
unfoldable pub mix : ℕ → ℕ
mix s =
    let a = bit_xor s (s / 2 ^ 30) * 0xbf58_476d_1ce4_e5b9 % word in
    let b = bit_xor a (a / 2 ^ 27) * 0x94d0_49bb_1331_11eb % word in
    bit_xor b (b / 2 ^ 31)

-- the next state, and its word
abbrev pub next : ℕ → Draw
next s = record { state = advance s; word = mix (advance s) }

-- the f64 that a state gives, from -0.5 up to 0.5: the 53 upper bits of its word
unfoldable pub uniform : ℕ → Float
uniform s = num (mix s / 2 ^ 11) ⊘ 2^53 ⊖ 0·5
