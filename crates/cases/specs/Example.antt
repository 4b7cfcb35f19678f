-- Section 7's example: a text, and what is printed for it. Definitions and statements only.
use Rattle.std.specs.Prelude.{◌≡◌, List, [], ◌∷◌, ◌++◌, ℕ}
use Rattle.judge.specs.Judge.{judge_text}
use Rattle.cases.specs.Text.{bytes}

-- four samples of two labels, without strata
unfoldable pub input : List ℕ
input = bytes "a10400\na2000000ffff\na2010000ffff\na2020001ffff\na2030001ffff\na300014000000000000000\na300024020000000000000\na300034024000000000000\na301024018000000000000\na301034020000000000000\na302034000000000000000\naf\n"

-- the same in upper case, without the last line feed
unfoldable pub upper : List ℕ
upper = bytes "A10400\nA2000000FFFF\nA2010000FFFF\nA2020001FFFF\nA2030001FFFF\nA300014000000000000000\nA300024020000000000000\nA300034024000000000000\nA301024018000000000000\nA301034020000000000000\nA302034000000000000000\nAF"

-- M 6; F 32 with 2 hits; dispersion unbounded with 6; smallest group under 5; no assignment
unfoldable pub output : List ℕ
output = bytes "b1040200000006\nb201404000000000000000000002\nb300000000000000000000000006\nb408\nb5020000000000\n"

-- what is printed; a second line feed at the end is an empty line: 12
pub record Example : Type 0 where
  pub judged : judge_text input ≡ output
  pub in_upper_case : judge_text upper ≡ output
  pub after_the_end : judge_text (input ++ (10 ∷ [])) ≡ bytes "bf0c\n"
