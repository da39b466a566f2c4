-- Rows: counts of what is at or before, and the same by merging the rows of what is directly before. Assumes nothing.
use mathlib.Core.Path.{◌≡◌, refl, sym, ap, ◌∙◌, subst}
use mathlib.Core.Bool.{Bool, true, false, ◌&&◌, ◌||◌, cond, false≢true}
use mathlib.Core.Logic.{◌↔◌}
use mathlib.Core.List.{List, [], ◌∷◌}
use Prim.Native.Nat.{ℕ, zero, suc, ◌+◌, ◌*◌, ◌≤◌, ◌<◌, max}
use native.Mathlib.Nat.{le_of_suc-le-suc, zero-add}
use native.Mathlib.Omega.{arith}
use lib.Dec.{leb, eqb}
use lib.ListN.{length, get_or}
use borrow.Author.Tests.{leb-true, le-leb, eqb-true, eqb-false, eq-eqb, ne_eqb}
use Rattle.base_lists.specs.Lists.{member, tally}
use Rattle.base_lists.proofs.Tests.{by_cases, clash, is_false, and_left, and_right, and_both, or_cases, or_left}
use Rattle.base_lists.proofs.Tests.{or_right, either}
use Rattle.base_lists.proofs.Members.{member_nil, member_here, member_there, member_cons}
use Rattle.base_lists.proofs.Tallies.{tally_same, tally_further, tally_ends}
use Rattle.base_lists.proofs.Tables.{tabulate_length, tabulate_at, join_length, join_at}
use Rattle.order.specs.Closure.{once, more}
use Rattle.order.proofs.Columns.{Initial, union_max, initial_reaches, reaches_initial}
use Rattle.plan_format.specs.Plan.{Plan, count, op, queues}
use Rattle.plan_order.specs.Precedence.{same_queue, direct, Before, all_before, before, at_or_before}
use Rattle.plan_order.specs.Rows.{epoch, column, row, rows}
use Rattle.plan_order.proofs.Readiness.{by_queue, direct_by}
use Rattle.plan_order.proofs.Precedence.{before_chain, chain_before, before_join, at_or_down}

-- ---- entries of a row
unfoldable pub on_queue : Plan → (q i : ℕ) → Bool
on_queue p q i = eqb (op p i).queue q

unfoldable pub entry : Plan → (j q : ℕ) → ℕ
entry p j q = tally (count p) (λ i. on_queue p q i && at_or_before p i j)

module _ (p : Plan) where
  column_entry : (j q : ℕ) → column p j (all_before p j) q ≡ entry p j q
  unfolding column entry on_queue at_or_before before
  column_entry j q = refl

  pub row_length : (j : ℕ) → length (row p j) ≡ 16
  unfolding row
  row_length j = tabulate_length (λ q. column p j (all_before p j) q) 16 0

  pub row_at : (j q : ℕ) → q < 16 → get_or (row p j) q 0 ≡ entry p j q
  unfolding row
  row_at j q l =
      tabulate_at (λ q. column p j (all_before p j) q) 16 0 q 0 l
      ∙ ap (λ (z : ℕ). column p j (all_before p j) z) (zero-add q) ∙ column_entry j q

  pub rows_length : length (rows p) ≡ 16 * count p
  unfolding rows
  rows_length = join_length 16 (λ j. row p j) row_length (count p) 0

  pub rows_at : (j q : ℕ) → j < count p → q < 16 → get_or (rows p) (16 * j + q) 0 ≡ entry p j q
  unfolding rows
  rows_at j q l b =
      join_at 16 (λ j. row p j) row_length (count p) 0 j q 0 l b
      ∙ ap (λ (z : ℕ). get_or (row p z) q 0) (zero-add j) ∙ row_at j q b

  -- ---- what is at or before is an initial part of each queue
  pub at_or_initial : (q j : ℕ) → Initial (count p) (λ i. on_queue p q i) (λ i. at_or_before p i j)
  unfolding on_queue
  at_or_initial q j i k l b a c t =
      at_or_down p i k j t (direct_by p i k (omega arith) b
      (by_queue l (eqb-true (op p i).queue q a ∙ sym (eqb-true (op p k).queue q c))))

  -- at or before one of a list
  unfoldable pub any_at : List ℕ → ℕ → Bool
  any_at [] i = false
  any_at (k ∷ ks) i = at_or_before p i k || any_at ks i

  any_at_initial : (q : ℕ) (ks : List ℕ) → Initial (count p) (λ i. on_queue p q i) (λ i. any_at ks i)
  unfolding any_at
  any_at_initial q [] i k l b a c t = t
  any_at_initial q (x ∷ xs) i k l b a c t =
      either (or_cases (at_or_before p k x) (any_at xs k) t)
      (λ u. or_left (at_or_before p i x) (any_at xs i) (at_or_initial q x i k l b a c u))
      (λ u. or_right (at_or_before p i x) (any_at xs i) (any_at_initial q xs i k l b a c u))

  unfoldable pub most : (q : ℕ) → List ℕ → ℕ
  most q [] = 0
  most q (k ∷ ks) = max (entry p k q) (most q ks)

  most_is : (q : ℕ) (ks : List ℕ) → tally (count p) (λ i. on_queue p q i && any_at ks i) ≡ most q ks
  unfolding most any_at entry tally
  most_is q [] = none_of (count p)
    where
      none_of : (n : ℕ) → tally n (λ i. on_queue p q i && false) ≡ 0
      none_of zero = refl
      none_of (suc n) = rw (mathlib.Core.Bool.and-false (on_queue p q n), none_of n) (omega arith)
  most_is q (x ∷ xs) =
      union_max (count p) (λ i. on_queue p q i) (λ i. at_or_before p i x)
      (λ i. any_at xs i) (at_or_initial q x) (any_at_initial q xs) ∙ ap (λ (z : ℕ). max (entry p x q) z) (most_is q xs)

  -- the operation's own part: those of its queue up to itself
  unfoldable pub own : (j i : ℕ) → Bool
  own j i = leb i j && eqb (op p i).queue (op p j).queue

  own_initial : (q j : ℕ) → Initial (count p) (λ i. on_queue p q i) (λ i. own j i)
  unfolding on_queue own
  own_initial q j i k l b a c t =
      let le = leb-true k j (and_left (leb k j) (eqb (op p k).queue (op p j).queue) t) in
      let same = eqb-true (op p k).queue (op p j).queue
      (and_right (leb k j) (eqb (op p k).queue (op p j).queue) t) in
      and_both (leb i j) (eqb (op p i).queue (op p j).queue) (le-leb i j (omega arith))
      (eq-eqb (op p i).queue (op p j).queue
      (eqb-true (op p i).queue q a ∙ sym (eqb-true (op p k).queue q c) ∙ same))

  pub any_at_gives : (ls : List ℕ) (i : ℕ) → any_at ls i ≡ true →
      (k : ℕ) × (member k ls ≡ true) × (at_or_before p i k ≡ true)
  unfolding any_at
  any_at_gives [] i e = absurd (false≢true e)
  any_at_gives (x ∷ xs) i e =
      either (or_cases (at_or_before p i x) (any_at xs i) e) (λ t. (x, member_here x xs, t))
      (λ t. let w = any_at_gives xs i t in (w.0, member_there w.0 x xs w.1, w.2))

  pub any_at_has : (ls : List ℕ) (i k : ℕ) → member k ls ≡ true → at_or_before p i k ≡ true → any_at ls i ≡ true
  unfolding any_at
  any_at_has [] i k m e = member_nil k m
  any_at_has (x ∷ xs) i k m e =
      either (member_cons k x xs m)
      (λ q. or_left (at_or_before p i x) (any_at xs i) (subst (λ (z : ℕ). at_or_before p i z ≡ true) (sym q) e))
      (λ m'. or_right (at_or_before p i x) (any_at xs i) (any_at_has xs i k m' e))

  module _ (j : ℕ) (inside : j < count p) (ks : List ℕ) (directs : (k : ℕ) → member k ks ≡ true → direct p k j ≡ true)
      (covers : (i : ℕ) → direct p i j ≡ true → any_at ks i ≡ true) where
    -- what is before j is at or before something of the list
    chain_any : (i : ℕ) → Before p i j → any_at ks i ≡ true
    unfolding at_or_before
    chain_any i (once _ _ e) = covers i e
    chain_any i (more _ m _ c e) =
        let w = any_at_gives ks m (covers m e) in
        any_at_has ks i w.0 w.1 (or_right (eqb i w.0) (before p i w.0)
        (either (or_cases (eqb m w.0) (before p m w.0) w.2)
        (λ q. subst (λ (z : ℕ). before p i z ≡ true) (eqb-true m w.0 q) (chain_before p i m c))
        (λ b. before_join p i m w.0 c b)))

    at_or_is : (i : ℕ) → i < count p → at_or_before p i j ≡ (own j i || any_at ks i)
    unfolding at_or_before own
    at_or_is i l =
        by_cases (at_or_before p i j)
        (λ t. t ∙ sym (either (or_cases (eqb i j) (before p i j) t)
        (λ q. let e = eqb-true i j q in
        or_left (own j i) (any_at ks i) (and_both (leb i j) (eqb (op p i).queue (op p j).queue)
        (le-leb i j (omega arith)) (eq-eqb (op p i).queue (op p j).queue (ap (λ (z : ℕ). (op p z).queue) e))))
        (λ b. or_right (own j i) (any_at ks i) (chain_any i (before_chain p i j b)))))
        (λ f. f ∙ sym (is_false (own j i || any_at ks i) (λ t. clash (at_or_before p i j)
        (either (or_cases (own j i) (any_at ks i) t)
        (λ o. let le = leb-true i j (and_left (leb i j) (eqb (op p i).queue (op p j).queue) o) in
        let same = eqb-true (op p i).queue (op p j).queue
        (and_right (leb i j) (eqb (op p i).queue (op p j).queue) o) in
        by_cases (eqb i j) (λ q. or_left (eqb i j) (before p i j) q)
        (λ n. or_right (eqb i j) (before p i j)
        (chain_before p i j (once i j (direct_by p i j l inside (by_queue (omega (arith, eqb-false i j n)) same))))))
        (λ a. let w = any_at_gives ks i a in
        or_right (eqb i j) (before p i j)
        (either (or_cases (eqb i w.0) (before p i w.0) w.2)
        (λ q. chain_before p i j
        (once i j (subst (λ (z : ℕ). direct p z j ≡ true) (sym (eqb-true i w.0 q)) (directs w.0 w.1))))
        (λ b. chain_before p i j (more i w.0 j (before_chain p i w.0 b) (directs w.0 w.1))))))
        f)))

    -- a row is the largest of the rows of what is directly before, and the own position
    pub entry_merged : (q : ℕ) → entry p j q ≡ max (tally (count p) (λ i. on_queue p q i && own j i)) (most q ks)
    unfolding entry
    entry_merged q =
        tally_same (count p) (λ i. on_queue p q i && at_or_before p i j)
        (λ i. on_queue p q i && (own j i || any_at ks i)) (λ i l. ap (λ (b : Bool). on_queue p q i && b) (at_or_is i l))
        ∙ union_max (count p) (λ i. on_queue p q i) (λ i. own j i)
        (λ i. any_at ks i) (own_initial q j) (any_at_initial q ks)
        ∙ ap (λ (z : ℕ). max (tally (count p) (λ i. on_queue p q i && own j i)) z) (most_is q ks)

-- ---- an entry and a position tell what is at or before
pub entry_tells : (p : Plan) (i j : ℕ) → i < count p →
    (at_or_before p i j ≡ true) ↔ (epoch p i ≤ entry p j (op p i).queue)
unfolding epoch entry on_queue same_queue
entry_tells p i j l =
    let q = (op p i).queue in (
      (λ t. initial_reaches (count p) (λ k. on_queue p q k)
          (λ k. at_or_before p k j) (at_or_initial p q j) i l (eq-eqb q q refl) t),
      (λ h. reaches_initial (count p) (λ k. on_queue p q k)
          (λ k. at_or_before p k j) (at_or_initial p q j) i l (eq-eqb q q refl) h),
    )

module _ (p : Plan) where
  -- the own part of a row: the position on the own queue, and 0 elsewhere
  pub own_is : (q j : ℕ) → j < count p →
      tally (count p) (λ i. on_queue p q i && own p j i) ≡ cond (eqb (op p j).queue q) (epoch p j) 0
  unfolding on_queue own epoch same_queue
  own_is q j l =
      by_cases (eqb (op p j).queue q)
      (λ t. let e = eqb-true (op p j).queue q t in
      let cut = tally_ends (suc j) (count p) (λ i. on_queue p q i && own p j i)
      (λ i a b. is_false (on_queue p q i && own p j i) (λ u. absurd (
      omega (
        arith,
        leb-true i j
            (and_left (leb i j) (eqb (op p i).queue (op p j).queue) (and_right (on_queue p q i) (own p j i) u)),
      )))) in
      let more = tally_further (suc j) (count p) (λ i. on_queue p q i && own p j i) l in
      let same = tally_same (suc j) (λ i. on_queue p q i && own p j i) (λ i. same_queue p i j) (λ i b.
      by_cases (eqb (op p i).queue q)
      (λ u.
      let o : eqb (op p i).queue (op p j).queue ≡ true =
      eq-eqb (op p i).queue (op p j).queue (eqb-true (op p i).queue q u ∙ sym e) in
      rw (u, o, le-leb i j (le_of_suc-le-suc b)))
      (λ u. rw u (sym (ne_eqb (op p i).queue (op p j).queue (λ z. eqb-false (op p i).queue q u (z ∙ e)))))) in
      rw t (omega arith))
      (λ f.
      let none_of = tally_ends 0 (count p) (λ i. on_queue p q i && own p j i)
      (λ i a b. is_false (on_queue p q i && own p j i) (λ u.
      eqb-false (op p j).queue q f
      (sym (eqb-true (op p i).queue (op p j).queue
      (and_right (leb i j) (eqb (op p i).queue (op p j).queue) (and_right (on_queue p q i) (own p j i) u)))
      ∙ eqb-true (op p i).queue q (and_left (on_queue p q i) (own p j i) u)))) in
      rw f (none_left (tally (count p) (λ i. on_queue p q i && own p j i)) none_of))
    where
      none_left : (m : ℕ) → m ≤ tally 0 (λ i. on_queue p q i && own p j i) → m ≡ 0
      none_left m h = let h' : m ≤ 0 = unfold tally in h in omega arith

  -- a column that is no queue's is 0
  pub unused_zero : ((i : ℕ) → i < count p → (op p i).queue < queues p) → (j q : ℕ) → queues p ≤ q → entry p j q ≡ 0
  unfolding entry on_queue tally
  unused_zero in_range j q l =
      let z = tally_ends 0 (count p) (λ i. on_queue p q i && at_or_before p i j)
      (λ i a b. is_false (on_queue p q i && at_or_before p i j) (λ t. absurd (
      omega (arith, in_range i b, eqb-true (op p i).queue q (and_left (on_queue p q i) (at_or_before p i j) t))))) in
      omega arith
