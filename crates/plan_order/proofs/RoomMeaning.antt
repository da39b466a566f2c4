-- Room for table and list: 9 at the length needed, the table before the list. Assumes nothing.
use mathlib.Core.Path.{◌≡◌, refl}
use mathlib.Core.Logic.{◌⊎◌, inl, inr}
use Prim.Native.Nat.{ℕ, ◌*◌}
use lib.Dec.{ltb}
use borrow.Author.Tests.{ltb-true, ltb-false}
use native.Mathlib.Omega.{arith}
use Rattle.base_lists.proofs.Tests.{by_cases}
use Rattle.plan_format.specs.Refusal.{refusal, none_given, given, or_refusal}
use Rattle.plan_format.specs.Stored.{room_for}
use Rattle.plan_format.proofs.Judged.{other_given, or_else_first, or_else_second}
use Rattle.plan_format.proofs.RoomMeaning.{room_for_means}
use Rattle.plan_order.specs.Check.{room_refusal}
use Rattle.plan_order.specs.Meaning.{RoomMeans}

-- too little room for both: the table comes first
table_first : room_refusal 1 15 1 ≡ refusal 9 16
unfolding room_refusal room_for or_refusal given refusal
table_first = refl

-- the list holds a ready number for each step besides the run
list_doubled : room_refusal 1 16 1 ≡ refusal 9 2
unfolding room_refusal room_for or_refusal given none_given refusal
list_doubled = refl

module _ (n t l : ℕ) where
  pub room_means : RoomMeans n t l (room_refusal n t l)
  unfolding room_refusal
  room_means =
      let a = room_for (16 * n) t in
      let b = room_for (2 * n) l in
      let table = room_for_means (16 * n) t in
      let list = room_for_means (2 * n) l in
      record {
        table_short = λ h. let w = table.short h in
            rw (or_else_first a b (other_given a (λ z. omega (arith, w.0)))) w;
        list_short = λ h g. rw (or_else_second a b (table.enough h).0) (list.short g);
        enough = λ h g. rw (or_else_second a b (table.enough h).0) (list.enough g);
      }

  -- 9 or none
  pub room_nine : ((room_refusal n t l).number ≡ 0) ⊎ ((room_refusal n t l).number ≡ 9)
  room_nine =
      by_cases (ltb t (16 * n)) (λ a. inr (room_means.table_short (ltb-true t (16 * n) a)).0)
      (λ a. by_cases (ltb l (2 * n))
      (λ b. inr (room_means.list_short (ltb-false t (16 * n) a) (ltb-true l (2 * n) b)).0)
      (λ b. inl (room_means.enough (ltb-false t (16 * n) a) (ltb-false l (2 * n) b)).0))
