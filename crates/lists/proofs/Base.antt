-- The libraries' names that proofs use most, in one place.
pub use native.Mathlib.Omega.{arith}
pub use mathlib.Core.Path.{◌∙◌, ap, sym, ◌≡◌, refl, ap₂, subst}
pub use lib.ListN.{length, get_or, drop, take, replicate, set, length-replicate, length-set, length-append, length-drop, length-map}
pub use lib.ListN.{drop_of_length-le, take-append-drop, get_or-replicate, get_or-append as List·get_or-append, get_or-eq_default as List·get_or-eq-default}
pub use borrow.Author.Rules.{rules}
pub use Prim.Native.Nat.{◌≤◌, ℕ, ◌-◌, ◌+◌, ◌*◌, ◌<◌, suc, zero, ◌^◌, min, ◌/◌, ◌%◌, suc-le-suc, max}
pub use mathlib.Core.List.{List, [], ◌∷◌, ◌++◌, map, append_assoc, append-nil}
pub use lib.Ieee.{Float, nan, lt, is_nan}
pub use mathlib.Core.Bool.{Bool, true, false, cond, ◌&&◌, ◌||◌, not, true≢false}
pub use lib.Seq.{length-take-le, take_at, get_or-set_other, ext_get_or, get_or-set_same, drop_at, take_all, get_or-take}
pub use lib.Seq.{length_front, drop-drop, get_or-drop, drop-cons, get_or-append-add, sets, take-take}
pub use lib.Dec.{eqb, ltb, leb, le→leb, T}
pub use borrow.Author.Tests.{eq-eqb, le-ltb, ne_eqb, lt-ltb, eqb-true, ltb-false, ltb-true, leb-true, eqb-false, not-false, le-leb, lt-leb, not-true}
pub use mathlib.Core.Logic.{⊎_elim, inl, inr, ◌⊎◌}
pub use native.Mathlib.Nat.{mul-le-mul, min-le_right, zero-add, add-zero, not-suc-le-zero, le_refl, mul-le-mul_right}
pub use native.Mathlib.Nat.{le_of_suc-le-suc, zero-mul, add-sub_cancel_left, min-le_left, mod-lt}
pub use native.Mathlib.Numerals.{add-one}
pub use native.Mathlib.Decide.{ℕ_discrete, dec_lt}
pub use borrow.Rule.Slice.PartMut.{put_mid}
