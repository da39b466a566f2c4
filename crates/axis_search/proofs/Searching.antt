-- What one turn of the search does. Assumes nothing.
use mathlib.Core.Path.{◌≡◌, refl, sym, ◌∙◌, subst}
use mathlib.Core.Bool.{cond}
use mathlib.Core.List.{List}
use Rattle.std.specs.Prelude.{Some, None}
use Prim.Native.Nat.{ℕ, zero, suc, ◌+◌, ◌-◌, ◌/◌, ◌%◌, ◌*◌, ◌≤◌, ◌<◌}
use native.Mathlib.Omega.{arith}
use lib.Dec.{ltb}
use lib.ListN.{length, get_or}
use borrow.Author.Tests.{eq-eqb, ne_eqb, le-leb}
use Rattle.base_lists.proofs.Tests.{by_cases}
use Rattle.axis_search.specs.Halving.{most_slots, Range, middle, narrowed, search_from}
use Rattle.axis_search.specs.Halving.{searched}

-- the search goes on from here as the whole: so many turns are enough for those in question
pub record Searching (axes : List ℕ) (axis len low many read : ℕ) : Type 0 where
  pub turns : ℕ
  pub enough : many ≤ turns
  pub counted : read + turns ≡ len
  pub few : len ≤ most_slots
  pub there : len ≤ length axes
  pub inside : low + many ≤ len
  pub rest : search_from axes axis turns read (record { low = low; many = many }) ≡ searched axes axis len

-- a turn at least, where something is in question
one_turn : (turns many : ℕ) → 0 < many → many ≤ turns → (t : ℕ) × (turns ≡ suc t) × (many ≤ suc t)
one_turn zero many l h = absurd (omega arith)
one_turn (suc t) many l h = (t, refl, h)

-- what is narrowed is at most half, inside of what was in question
pub narrowed_half : (axes : List ℕ) (axis : ℕ) (r : Range) → 0 < r.many →
    (2 * (narrowed axes axis r).many ≤ r.many)
    × ((narrowed axes axis r).low + (narrowed axes axis r).many ≤ r.low + r.many)
unfolding narrowed middle
narrowed_half axes axis r l =
    by_cases (ltb (get_or axes (r.low + r.many / 2) 0) axis) (λ t. rw t (omega arith, omega arith))
    (λ f. rw f (omega arith, omega arith))

module _ {axes : List ℕ} {axis len : ℕ} where
  pub searching_none : len ≤ most_slots → len ≤ length axes → Searching axes axis len 0 len 0
  unfolding searched
  searching_none l m = record {
    turns = len;
    enough = omega arith;
    counted = omega arith;
    few = l;
    there = m;
    inside = omega arith;
    rest = rw (le-leb len most_slots l, le-leb len (length axes) m);
  }

  module _ {low many read : ℕ} (s : Searching axes axis len low many read) where
    pub searching_end : many ≤ 0 → record { at = None; read = read } ≡ searched axes axis len
    unfolding search_from
    searching_end l = by s.turns s.rest
      where
        z : many ≡ 0
        z = omega arith

        by : (t : ℕ) → search_from axes axis t read (record { low = low; many = many }) ≡ searched axes axis len →
            record { at = None; read = read } ≡ searched axes axis len
        by zero e = e
        by (suc t) e = rw (eq-eqb many 0 z) at e

    module _ (more : 0 < many) {x : ℕ} (x_is : x ≡ get_or axes (low + many / 2) 0) where
      turn : (t : ℕ) × (s.turns ≡ suc t) × (many ≤ suc t)
      turn = one_turn s.turns many more s.enough

      here : search_from axes axis (suc turn.0) read (record { low = low; many = many }) ≡ searched axes axis len
      here = subst (λ (t : ℕ). search_from axes axis t read (record { low = low; many = many })
          ≡ searched axes axis len) turn.1 s.rest

      pub searching_found : x ≡ axis → record { at = Some (low + many / 2); read = read + 1 } ≡ searched axes axis len
      unfolding search_from middle
      searching_found e =
          rw (ne_eqb many 0 (λ z. omega arith), eq-eqb (get_or axes (low + many / 2) 0) axis (sym x_is ∙ e)) at here

      -- what is added to the low end, and what is taken from the half
      low_narrowed : {up : ℕ} → up ≡ cond (ltb x axis) (many / 2 + 1) 0 →
          low + up ≡ (narrowed axes axis (record { low = low; many = many })).low
      unfolding narrowed middle
      low_narrowed e =
          by_cases (ltb x axis) (λ t. rw (sym x_is, t) (omega (arith, rw t at e)))
          (λ f. rw (sym x_is, f) (omega (arith, rw f at e)))

      many_narrowed : {down : ℕ} → down ≡ cond (ltb x axis) (1 - many % 2) 0 →
          many / 2 - down ≡ (narrowed axes axis (record { low = low; many = many })).many
      unfolding narrowed middle
      many_narrowed e =
          by_cases (ltb x axis) (λ t. rw (sym x_is, t) (omega (arith, rw t at e)))
          (λ f. rw (sym x_is, f) (omega (arith, rw f at e)))

      pub searching_more : {up down : ℕ} → (x ≡ axis → ⊥) → up ≡ cond (ltb x axis) (many / 2 + 1) 0 →
          down ≡ cond (ltb x axis) (1 - many % 2) 0 →
          Searching axes axis len (low + up) (many / 2 - down) (read + 1)
      unfolding search_from middle
      searching_more ne u d =
          let half = narrowed_half axes axis (record { low = low; many = many }) more in
          let p = low_narrowed u in
          let q = many_narrowed d in
          record {
            turns = turn.0;
            enough = omega (arith, turn.2, half.0, q, more);
            counted = omega (arith, s.counted, turn.1);
            few = s.few;
            there = s.there;
            inside = omega (arith, s.inside, half.1, p, q);
            rest = rw (p, q) (rw (
              ne_eqb many 0 (λ z. omega arith),
              ne_eqb (get_or axes (low + many / 2) 0) axis (λ z. ne (x_is ∙ z)),
            ) at here);
          }
