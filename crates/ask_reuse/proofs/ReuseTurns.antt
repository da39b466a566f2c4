-- What one turn of each loop does. Assumes nothing.
use mathlib.Core.Path.{◌≡◌, refl, sym, ap, ◌∙◌}
use mathlib.Core.Bool.{Bool, true, false}
use mathlib.Core.List.{List}
use mathlib.Core.Option.{Option, none, some}
use Rattle.std.specs.Prelude.{Some, None}
use Prim.Native.Nat.{ℕ, suc, ◌+◌, ◌*◌, ◌/◌, ◌%◌, ◌≤◌, ◌<◌}
use lib.Dec.{leb, eqb}
use lib.ListN.{get_or}
use native.Mathlib.Omega.{arith}
use borrow.Author.Tests.{lt-ltb, le-ltb, eq-eqb, ne_eqb}
use Rattle.base_lists.specs.Lists.{highest_below}
use Rattle.plan_format.specs.Sizes.{most_operations}
use Rattle.check_columns.specs.Shown.{mark_codes}
use Rattle.check_columns.proofs.Ordered.{ordered_is}
use Rattle.plan_order.specs.declared.Verdict.{Verdict}
use Rattle.plan_order.specs.declared.Verdict.TheVariants.{Fresh}
use Rattle.ask_reuse.specs.ReusePass.{last_shown, last_marked, seen, verdict_after, verdict_at}
use Rattle.ask_reuse.specs.ReusePass.{marked_by, judged_at, judged_by}
use Rattle.ask_reuse.specs.declared.Judged.{Judged}

-- ---- a search from the last to the first
module _ (f : ℕ → Bool) where
  -- nothing passes from a place on
  pub record Passed (n i : ℕ) : Type 0 where
    pub lower : highest_below i f ≡ highest_below n f

  pub passed_all : (n : ℕ) → Passed n n
  passed_all n = record { lower = refl }

  pub passed_more : {n i : ℕ} → Passed n i → (j : ℕ) → i ≡ suc j → f j ≡ false → Passed n j
  unfolding highest_below
  passed_more p j e t = record { lower = rw (e, t) at p.lower }

  pub passed_here : {n i : ℕ} → Passed n i → (j : ℕ) → i ≡ suc j → f j ≡ true → highest_below n f ≡ some j
  unfolding highest_below
  passed_here p j e t = sym (rw (e, t) at p.lower)

  pub passed_none : {n i : ℕ} → Passed n i → i ≤ 0 → ◌≡◌ {A = Option ℕ} (highest_below n f) none
  unfolding highest_below
  passed_none {i} p l = let z : i ≡ 0 = omega arith in sym (rw z at p.lower)

-- the operation is of the queue, and the mark is on the buffer
abbrev pub own : (queue : List ℕ) → (q i : ℕ) → Bool
own queue q i = eqb (get_or queue i 0) q

abbrev pub on_buffer : (mark : List ℕ) → (b k : ℕ) → Bool
on_buffer mark b k = eqb (get_or mark k 0 % mark_codes / 2) b

-- ---- whether an operation is seen
module _ (queue rows : List ℕ) where
  pub seen_none : (o : Option ℕ) (i : ℕ) → ◌≡◌ {A = Option ℕ} o none → false ≡ seen queue rows o i
  unfolding seen
  seen_none o i e = rw e

  pub seen_past : (o : Option ℕ) (last i : ℕ) → o ≡ some last → most_operations ≤ last → false ≡ seen queue rows o i
  unfolding seen
  seen_past o last i e l = rw (e, le-ltb last most_operations l)

  pub seen_some : (o : Option ℕ) (last i x a b : ℕ) → o ≡ some last → last < most_operations → x ≡ get_or queue i 0 →
      a ≡ get_or rows (16 * i + x % 16) 0 →
      b ≡ get_or rows (16 * last + x % 16) 0 →
      leb a b ≡ seen queue rows o i
  unfolding seen
  seen_some o last i x a b is l e f g =
      rw (is, lt-ltb last most_operations l) (ordered_is queue rows i last x a b e f g)

-- ---- the verdict by the last mark on the buffer, which is found from the end
module _ (mark : List ℕ) (b : ℕ) {many k : ℕ} (left : Passed (on_buffer mark b) many k) where
  pub left_none : (f : ℕ → Bool) (operation : List ℕ) → k ≤ 0 →
      record { verdict = Fresh; operation = None } ≡ judged_at f mark operation (last_marked mark b many)
  unfolding last_marked verdict_at marked_by judged_at
  left_none f operation l = rw (passed_none (on_buffer mark b) left l)

  module _ (j : ℕ) (j_is : k ≡ suc j) {m : ℕ} (m_is : m ≡ get_or mark j 0 % mark_codes) where
    -- a mark on another buffer
    pub left_other : (m / 2 ≡ b → ⊥) → Passed (on_buffer mark b) many j
    left_other h =
        passed_more (on_buffer mark b) left j j_is
        (ap (λ (z : ℕ). eqb (z / 2) b) (sym m_is) ∙ ne_eqb (m / 2) b h)

    -- a mark on the buffer
    pub left_own : (f : ℕ → Bool) (operation : List ℕ) {i : ℕ} {s : Bool} {v : Verdict} → m / 2 ≡ b →
        i ≡ get_or operation j 0 % most_operations → s ≡ f i → v ≡ verdict_after (eqb (m % 2) 1) s →
        record { verdict = v; operation = Some i } ≡ judged_at f mark operation (last_marked mark b many)
    unfolding last_marked verdict_at marked_by judged_at
    left_own f operation h i_is s_is v_is =
        let here = passed_here (on_buffer mark b) left j j_is
        (ap (λ (z : ℕ). eqb (z / 2) b) (sym m_is) ∙ eq-eqb (m / 2) b h) in
        rw (v_is, here, ← m_is, ← i_is, ← s_is)

-- ---- all of it
pub judged_is : (queue mark operation rows : List ℕ) (q b n marks : ℕ) {r : Judged} →
    r ≡ judged_at (seen queue rows (last_shown queue q n)) mark operation (last_marked mark b marks) →
    r ≡ judged_by queue mark operation rows q b n marks
unfolding judged_by
judged_is queue mark operation rows q b n marks e = e
