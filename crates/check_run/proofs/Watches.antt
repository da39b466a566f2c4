-- The ready queues and the notes after a step: whoever can go is ready, whoever is held is noted at what holds it.
-- Assumes nothing.
use mathlib.Core.Path.{◌≡◌, refl, sym, ap, ◌∙◌}
use mathlib.Core.Bool.{Bool, true, false, ◌&&◌, ◌||◌, not, and-false, or-true}
use mathlib.Core.List.{List}
use Prim.Native.Nat.{ℕ, ◌+◌, ◌-◌, ◌*◌, ◌^◌, ◌≤◌, ◌<◌}
use native.Mathlib.Omega.{arith}
use lib.Bits.{bit_or}
use lib.Dec.{ltb, eqb}
use lib.ListN.{length, get_or, set}
use lib.Seq.{get_or-set_same, get_or-set_other}
use borrow.Author.Tests.{ltb-true, lt-ltb, eqb-true, eqb-false, eq-eqb}
use Rattle.base_lists.proofs.Tests.{by_cases, clash, is_false, and_left, and_right, and_both, or_left, or_right}
use Rattle.plan_format.specs.Sizes.{no_operation}
use Rattle.check_run.specs.Words.{has}
use Rattle.check_run.specs.Queues.{blocker_of, can_go, HeadsLooked}
use Rattle.check_run.specs.State.{Noted, Watch}
use Rattle.check_run.proofs.Words.{has_unit, has_or, has_minus}
use Rattle.check_run.proofs.Sources.{blocker_none, no_blocker_gives, blocker_where}

-- ---- a queue that can go
module _ (head source ran : List ℕ) (q : ℕ) where
  pub go_gives : can_go head source ran q ≡ true → (get_or head q 0 < no_operation)
      × (blocker_of source ran (get_or head q 0) ≡ no_operation)
  unfolding can_go
  go_gives t =
      let a = ltb (get_or head q 0) no_operation in
      let b = eqb (blocker_of source ran (get_or head q 0)) no_operation in (
        ltb-true (get_or head q 0) no_operation (and_left a b t),
        eqb-true
            (blocker_of source ran (get_or head q 0)) no_operation (and_right a b t),
      )

  pub go_by : get_or head q 0 < no_operation → blocker_of source ran (get_or head q 0) ≡ no_operation →
      can_go head source ran q ≡ true
  unfolding can_go
  go_by l e =
      and_both (ltb (get_or head q 0) no_operation) (eqb (blocker_of source ran (get_or head q 0)) no_operation)
      (lt-ltb (get_or head q 0) no_operation l)
      (eq-eqb (blocker_of source ran (get_or head q 0)) no_operation e)

-- a queue that was looked at and cannot go is noted at what holds it
pub noted_by :
    (mask ready : ℕ) (head source ran waiter : List ℕ) (ready' : ℕ) (waiter' : List ℕ) →
    HeadsLooked mask ready head source ran waiter ready' waiter' →
    (k : ℕ) → k < 16 → has mask k ≡ true →
    ((m : ℕ) → m < 3 → get_or source (3 * get_or head k 0 + m) 0 ≤ no_operation) →
    get_or head k 0 < no_operation → can_go head source ran k ≡ false → Noted head source ran waiter' k
noted_by mask ready head source ran waiter ready' waiter' looked k l m small h f =
    let b = blocker_of source ran (get_or head k 0) in
    let ne : b ≡ no_operation → ⊥ = λ z. clash (can_go head source ran k) (go_by head source ran k h z) f in
    let w = blocker_where source ran (get_or head k 0) b refl ne in
    let few : b < no_operation = omega (arith, small w.0 w.1, w.2) in
    record {
      place = w.0;
      at = b;
      few = w.1;
      source_is = w.2;
      inside = few;
      held = w.3;
      marked = looked.noted k b l m h refl few;
    }

module _ (source head ran waiter : List ℕ) (ready : ℕ) (watch : Watch source head ran waiter ready)
    (none_run : get_or ran no_operation 0 ≡ 1)
    (head_long : length head ≡ 16) (ran_long : length ran ≡ no_operation + 1)
    (q j : ℕ) (inside : q < 16) (there : has ready q ≡ true) (small : j < no_operation)
    (after : ℕ) (head' ran' : List ℕ) (head_is : head' ≡ set head q after) (ran_is : ran' ≡ set ran j 1)
    (sources_small : (k : ℕ) → k < 16 → get_or head' k 0 < no_operation → (m : ℕ) → m < 3 →
    get_or source (3 * get_or head' k 0 + m) 0 ≤ no_operation)
    (seen bit : ℕ) (seen_is : seen ≡ get_or waiter j 0) (bit_is : bit ≡ 2 ^ q) (ready' : ℕ) (waiter' : List ℕ)
    (looked : HeadsLooked (bit_or seen bit) (ready - bit) head' source ran' waiter ready' waiter') where
  head_other : (k : ℕ) → (q ≡ k → ⊥) → get_or head' k 0 ≡ get_or head k 0
  head_other k ne = ap (λ (x : List ℕ). get_or x k 0) head_is ∙ get_or-set_other head q k after 0 (λ z. ne (sym z))

  ran_other : (i : ℕ) → (i ≡ j → ⊥) → get_or ran' i 0 ≡ get_or ran i 0
  ran_other i ne = ap (λ (x : List ℕ). get_or x i 0) ran_is ∙ get_or-set_other ran j i 1 0 ne

  ran_same : get_or ran' j 0 ≡ 1
  ran_same = ap (λ (x : List ℕ). get_or x j 0) ran_is
      ∙ get_or-set_same ran j 1 0 (let h : j < length ran = omega arith in h)

  ran_still : (i : ℕ) → get_or ran' i 0 ≡ 0 → get_or ran i 0 ≡ 0
  ran_still i z =
      by_cases (eqb i j)
      (λ t.
      absurd (let e : get_or ran' i 0 ≡ 1 = ap (λ (x : ℕ). get_or ran' x 0) (eqb-true i j t) ∙ ran_same in omega arith))
      (λ f. sym (ran_other i (eqb-false i j f)) ∙ z)

  sentinel : get_or ran no_operation 0 ≡ 0 → ⊥
  sentinel z = omega arith

  sentinel' : get_or ran' no_operation 0 ≡ 0 → ⊥
  sentinel' z = sentinel (ran_still no_operation z)

  -- ---- the words
  mask_bits : (k : ℕ) → k < 16 → has (bit_or seen bit) k ≡ (has (get_or waiter j 0) k || eqb q k)
  mask_bits k l =
      has_or seen bit k
      ∙ ap (λ (x : Bool). x || has bit k) (ap (λ (x : ℕ). has x k) seen_is)
      ∙ ap (λ (x : Bool). has (get_or waiter j 0) k || x) (ap (λ (x : ℕ). has x k) bit_is ∙ has_unit q k)

  left_bits : (k : ℕ) → has (ready - bit) k ≡ (not (eqb q k) && has ready k)
  left_bits k = ap (λ (x : ℕ). has (ready - x) k) bit_is ∙ has_minus ready q k there

  -- ---- the other queues
  no_fewer : (k : ℕ) → (q ≡ k → ⊥) → can_go head source ran k ≡ true → can_go head' source ran' k ≡ true
  no_fewer k ne t =
      let g = go_gives head source ran k t in
      let e = head_other k ne in
      go_by head' source ran' k (rw e g.0)
      (ap (λ (x : ℕ). blocker_of source ran' x) e
      ∙ blocker_none source ran' (get_or head k 0)
      (λ m b z. no_blocker_gives source ran (get_or head k 0) sentinel g.1 m b
      (ran_still (get_or source (3 * get_or head k 0 + m) 0) z)))

  still_held : (k : ℕ) → (q ≡ k → ⊥) → (N : Noted head source ran waiter k) → (N.at ≡ j → ⊥) →
      can_go head' source ran' k ≡ false
  still_held k ne N far =
      is_false (can_go head' source ran' k) (λ t.
      no_blocker_gives source ran' (get_or head' k 0) sentinel' (go_gives head' source ran' k t).1 N.place N.few
      (ap (λ (x : ℕ). get_or ran' x 0) (ap (λ (x : ℕ). get_or source (3 * x + N.place) 0) (head_other k ne) ∙
      N.source_is)
      ∙ ran_other N.at far ∙ N.held))

  -- a held queue that can go now was noted at j
  woken : (k : ℕ) → k < 16 → (q ≡ k → ⊥) → can_go head source ran k ≡ false → can_go head' source ran' k ≡ true →
      has (bit_or seen bit) k ≡ true
  woken k l ne f t =
      let N = watch.noted k l (rw (head_other k ne) at (go_gives head' source ran' k t).0) f in
      mask_bits k l
      ∙ or_left (has (get_or waiter j 0) k) (eqb q k) (by_cases (eqb N.at j)
      (λ z. ap (λ (x : ℕ). has (get_or waiter x 0) k) (sym (eqb-true N.at j z)) ∙ N.marked)
      (λ z. clash (can_go head' source ran' k) t (still_held k ne N (eqb-false N.at j z))))

  readies' : (k : ℕ) → k < 16 → has ready' k ≡ can_go head' source ran' k
  readies' k l = looked.readies k l ∙ by_cases (eqb q k)
      (λ t. rw (left_bits k, mask_bits k l, t, or-true (has (get_or waiter j 0) k)))
      (λ f. let ne = eqb-false q k f in
      rw (left_bits k, f, watch.readies k l) (by_cases (can_go head source ran k)
      (λ t. rw (t, no_fewer k ne t))
      (λ u. rw u (by_cases (can_go head' source ran' k) (λ t. rw (t, woken k l ne u t))
      (λ v. rw (v, and-false (has (bit_or seen bit) k)))))))

  noted_old : (k : ℕ) → k < 16 → has (bit_or seen bit) k ≡ false → get_or head' k 0 < no_operation →
      can_go head' source ran' k ≡ false → Noted head' source ran' waiter' k
  noted_old k l m h f =
      let either_bit = sym (mask_bits k l) ∙ m in
      let ne : q ≡ k → ⊥ = λ z. clash (has (get_or waiter j 0) k || eqb q k)
      (or_right (has (get_or waiter j 0) k) (eqb q k) (eq-eqb q k z)) either_bit in
      let e = head_other k ne in
      let was : can_go head source ran k ≡ false =
      is_false (can_go head source ran k) (λ t. clash (can_go head' source ran' k) (no_fewer k ne t) f) in
      let N = watch.noted k l (rw e at h) was in
      let far : N.at ≡ j → ⊥ = λ z. clash (has (get_or waiter j 0) k || eqb q k)
      (or_left (has (get_or waiter j 0) k) (eqb q k) (ap (λ (x : ℕ). has (get_or waiter x 0) k) (sym z) ∙ N.marked))
      either_bit in
      record {
        place = N.place;
        at = N.at;
        few = N.few;
        source_is = ap (λ (x : ℕ). get_or source (3 * x + N.place) 0) e ∙ N.source_is;
        inside = N.inside;
        held = ran_other N.at far ∙ N.held;
        marked = looked.kept N.at k l N.marked;
      }

  pub watch_more : Watch source head' ran' waiter' ready'
  watch_more = record {
    readies = readies';
    noted = λ k l h f. by_cases (has (bit_or seen bit) k)
        (λ t. noted_by (bit_or seen bit) (ready - bit) head' source ran' waiter ready' waiter' looked k l t
        (sources_small k l h) h f) (λ n. noted_old k l n h f);
    long = looked.long ∙ watch.long;
  }
