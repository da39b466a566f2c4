-- A number is in a list where some element is that number.
use Rattle.std.proofs.Common.{rules, ◌≡◌, ◌==◌, List, [], ◌∷◌, ℕ, refl}
use Rattle.std.specs.List.{list_any}
use Rattle.base_lists.specs.Lists.{member}

pub member_by_any : (n : ℕ) (xs : List ℕ) → member n xs ≡ list_any (λ x. x == n) xs
unfolding member
member_by_any n [] = refl
member_by_any n (x ∷ xs) = search (rules, member_by_any n xs)
