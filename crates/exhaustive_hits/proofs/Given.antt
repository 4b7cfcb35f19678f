-- An assignment's two readings are the library's: whether it is given, and how many are right. Where none is observed, none is a hit.
use Rattle.lists.proofs.Base.{◌≡◌, refl, false, ℕ}
use Rattle.std.specs.Prelude.{Option, Some, None, unwrap_or}
use Rattle.std.specs.Option.{is_some}
use Rattle.exhaustive_hits.specs.WayHits.{as_right, is_given, right_of}

pub given-some : (a : Option ℕ) → is_some a ≡ is_given a
unfolding is_given
given-some None = refl
given-some (Some r) = refl

pub right-or : (a : Option ℕ) → unwrap_or a 0 ≡ right_of a
right-or None = refl
right-or (Some r) = refl

pub none_seen : {o : Option ℕ} (s : Option ℕ) → o ≡ None → false ≡ as_right o s
unfolding as_right
none_seen None e = rw e
none_seen (Some r) e = rw e
