-- A pair is put, or not.
use Rattle.lists.proofs.Base.{ℕ, ◌+◌, ◌*◌, ◌<◌, ◌≤◌, ◌≡◌, refl, sym, Bool, true, false, not, List, arith, mul-le-mul, get_or, set, Float, lt-ltb, le-ltb}
use Rattle.float.specs.Floats.{f64}
use Rattle.lists.proofs.Rows.{cell_below}
use Rattle.judge_frames.specs.declared.reader.Pair.{Pair}
use Rattle.judge_frames.specs.inner.Pairs.{unseen, Put}

pub cell-lt : (n i j : ℕ) → n ≤ 32 → i < n → j < n → i * n + j < 1024
cell-lt n i j h g k = let a : n * n ≤ 32 * 32 = mul-le-mul {n₂ = 32} {m₂ = 32} h h in omega (arith, cell_below n n i j g k)

module _ (n : ℕ) (seen : List Bool) (p : Pair) where
  pub not-upper : p.j ≤ p.i → unseen n seen p ≡ false
  unfolding unseen
  not-upper h = rw (le-ltb p.i p.j h)

  pub not-inside : p.i < p.j → n ≤ p.j → unseen n seen p ≡ false
  unfolding unseen
  not-inside h g = rw (lt-ltb p.i p.j h, le-ltb p.j n g)

  pub unmarked : {i j : ℕ} {b : Bool} → i ≡ p.i → j ≡ p.j → i < j → j < n → get_or seen (i * n + j) false ≡ b → unseen n seen p ≡ not b
  unfolding unseen
  unmarked x y h g e = rw (← x, ← y) (rw (lt-ltb _ _ h, lt-ltb _ n g, e))

pub put-none : (n : ℕ) (p : Pair) (d : List Float) (seen : List Bool) → unseen n seen p ≡ false → Put n p d seen d seen false
put-none n p d seen e = record { told = sym e; mirrored = refl; marked = refl }

pub put_one : (n : ℕ) (p : Pair) (d : List Float) (seen : List Bool) {i j : ℕ} {x : Float} → unseen n seen p ≡ true → i ≡ p.i → j ≡ p.j → x ≡ f64 p.bits →
    Put n p d seen (set (set d (i * n + j) x) (j * n + i) x) (set seen (i * n + j) true) true
put_one n p d seen e a b g = record {
  told = sym e;
  mirrored = rw (a, b, g) refl;
  marked = rw (a, b) refl;
}
