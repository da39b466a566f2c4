-- What a C caller of the question for a wait gets (R92). Assumes nothing: these are definitions.
use Rattle.std.specs.Prelude.{◌≡◌, List, [], ◌∷◌, ℕ}
use Rattle.plan_suggest.specs.declared.Advice.{Advice}
use Rattle.plan_suggest.specs.declared.Advice.TheVariants.{Wait}
use Rattle.plan_suggest.specs.Numbers.{wait_numbers}
use Rattle.plan_suggest.specs.Promise.{SuggestRight}
use Rattle.c_told.specs.Told.{told_of}

-- `told` is number, place and the number of the advice; `wait` has its semaphore and value, and zeros but for a wait
pub record SuggestHanded (bytes : List ℕ) (queue buffer : ℕ)
    (told wait table table_now list list_now : List ℕ) : Type 0 where
  pub advice : Advice
  pub right : SuggestRight bytes queue buffer (told_of told) advice table table_now list list_now
  pub wait_is : wait ≡ wait_numbers advice
  -- R92, by the answer alone
  pub given : (told_of told).answer ≡ 1 → (s v : ℕ) × (advice ≡ Wait s v) × (wait ≡ s ∷ v ∷ [])
  pub zeros : ((told_of told).answer ≡ 1 → ⊥) → wait ≡ 0 ∷ 0 ∷ []
