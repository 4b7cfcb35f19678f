-- No two names of the code's enum have one number: a contract that fixes the number fixes the name.
use Rattle.lists.proofs.Base.{ℕ, ◌≡◌, refl, sym, ap, ◌∙◌, List, [], ◌∷◌, get_or}
use Rattle.outcome.specs.declared.Refusal.{Refusal}
use Rattle.outcome.specs.declared.Refusal.TheVariants.{Length, Limit, Value, Weight, Labels, Ordination, Hashes, Ways, Columns, Pivot, Unordered, Frame, NoHashes, Mirror}
use Rattle.outcome.specs.Numbers.{number}

-- the name at a number; none has 0
names : List Refusal
names = Length ∷ Length ∷ Limit ∷ Value ∷ Weight ∷ Labels ∷ Ordination ∷ Hashes ∷ Ways ∷ Columns ∷ Pivot ∷ Unordered ∷ Frame ∷ NoHashes ∷ Mirror ∷ []

named : (r : Refusal) → get_or names (number r) Length ≡ r
unfolding names
named Length = refl
named Limit = refl
named Value = refl
named Weight = refl
named Labels = refl
named Ordination = refl
named Hashes = refl
named Ways = refl
named Columns = refl
named Pivot = refl
named Unordered = refl
named Frame = refl
named NoHashes = refl
named Mirror = refl

pub number-injective : (r s : Refusal) → number r ≡ number s → r ≡ s
number-injective r s e = sym (named r) ∙ ap (λ (k : ℕ). get_or names k Length) e ∙ named s
