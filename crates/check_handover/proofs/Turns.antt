-- What one turn of the walk over the signals does. Assumes nothing.
use mathlib.Core.Path.{◌≡◌, refl, sym, ◌∙◌}
use mathlib.Core.Bool.{Bool, true, false, not, cond}
use mathlib.Core.List.{List}
use Prim.Native.Nat.{ℕ, suc, ◌+◌, ◌-◌, ◌*◌, ◌%◌, ◌≤◌, ◌<◌}
use native.Mathlib.Omega.{arith}
use lib.Dec.{ltb, leb}
use lib.ListN.{get_or, set}
use borrow.Author.Tests.{lt-ltb, le-ltb, leb-true, leb-false}
use Rattle.base_lists.proofs.Tests.{by_cases}
use Rattle.plan_format.specs.Sizes.{most_operations, row_width, no_operation}
use Rattle.check_columns.proofs.Ordered.{ordered_is}
use Rattle.check_handover.specs.Walk.{unturned, turn_walk}

-- ---- the test
not_leb : (a b : ℕ) → ltb b a ≡ not (leb a b)
not_leb a b = by_cases (leb a b) (λ t. rw t (le-ltb b a (leb-true a b t))) (λ f. rw f (lt-ltb b a (leb-false a b f)))

pub unturned_some : (queue rows : List ℕ) (g i : ℕ) → g < no_operation →
    ltb (get_or rows (row_width * i + get_or queue g 0 % row_width) 0)
    (get_or rows (row_width * g + get_or queue g 0 % row_width) 0)
    ≡ unturned queue rows g i
unfolding unturned
unturned_some queue rows g i l =
    let q = get_or queue g 0 % row_width in
    let own = get_or rows (row_width * g + q) 0 in
    let other = get_or rows (row_width * i + q) 0 in
    rw (
      lt-ltb g no_operation l,
      not_leb own other,
      ordered_is queue rows g i (get_or queue g 0) own other refl refl refl,
    ) refl

pub unturned_none : (queue rows : List ℕ) (g i : ℕ) → no_operation ≤ g → ltb g no_operation ≡ unturned queue rows g i
unfolding unturned
unturned_none queue rows g i l = rw (le-ltb g no_operation l) refl

-- ---- the loop: what is left of the walk gives what the whole does
pub record Left (queue rows ssem sop : List ℕ) (n many : ℕ) (first : List ℕ) (k : ℕ) (last : List ℕ) : Type 0 where
  pub inside : k ≤ many
  pub rest : turn_walk queue rows ssem sop n (many - k) k last ≡ turn_walk queue rows ssem sop n many 0 first

module _ {queue rows ssem sop : List ℕ} {n many : ℕ} {first : List ℕ} where
  pub left_none : Left queue rows ssem sop n many first 0 first
  left_none = let e : many - 0 ≡ many = omega arith in record { inside = omega arith; rest = rw e refl }

  pub left_end : {k : ℕ} {last : List ℕ} → many ≤ k → Left queue rows ssem sop n many first k last →
      n ≡ turn_walk queue rows ssem sop n many 0 first
  unfolding turn_walk
  left_end {k} l b = let e : many - k ≡ 0 = omega arith in rw e at b.rest

  module _ {k s i : ℕ} {last : List ℕ} (b : Left queue rows ssem sop n many first k last) (more : k < many)
      (s_is : s ≡ get_or ssem k 0) (i_is : i ≡ get_or sop k 0 % most_operations) {g : ℕ} (g_is : g ≡ get_or last s 0)
      {t : Bool} (t_is : t ≡ unturned queue rows g i) where
    next_is : turn_walk queue rows ssem sop n (many - k) k last
        ≡ cond t i (turn_walk queue rows ssem sop n (many - (k + 1)) (k + 1) (set last s i))
    unfolding turn_walk
    next_is =
        let e : many - k ≡ suc (many - (k + 1)) = omega arith in
        let f : suc k ≡ k + 1 = omega arith in
        rw (e, f, t_is, g_is, s_is, i_is) refl

    pub left_found : t ≡ true → i ≡ turn_walk queue rows ssem sop n many 0 first
    left_found h = sym (next_is ∙ rw h refl) ∙ b.rest

    pub left_more : t ≡ false → {next : List ℕ} → next ≡ set last s i →
        Left queue rows ssem sop n many first (k + 1) next
    left_more h e = record { inside = omega arith; rest = rw e (sym (next_is ∙ rw h refl) ∙ b.rest) }

pub ruleset turns_left = (left_none, left_found, left_more, left_end)
