-- The row of an operation that runs: merged from the rows of its queue's last operation and of its sources. Assumes
-- nothing.
use mathlib.Core.Path.{◌≡◌, refl, sym, ap, ap₂, ◌∙◌, subst}
use mathlib.Core.Bool.{Bool, true, false, cond}
use mathlib.Core.Logic.{inl}
use mathlib.Core.List.{List, [], ◌∷◌, ◌++◌}
use Prim.Native.Nat.{ℕ, zero, suc, ◌+◌, ◌-◌, ◌*◌, ◌%◌, ◌≤◌, ◌<◌, max}
use native.Mathlib.Nat.{le_trans}
use native.Mathlib.Omega.{arith}
use lib.Dec.{ltb, leb, eqb}
use lib.ListN.{length, get_or}
use borrow.Author.Tests.{ltb-true, ltb-false, lt-ltb, leb-true, leb-false, eqb-true, eqb-false, eq-eqb, ne_eqb}
use Rattle.base_lists.specs.Lists.{member, filter, tally}
use Rattle.base_lists.proofs.Tests.{by_cases, clash, is_false, or_left, or_right, either}
use Rattle.base_lists.proofs.Members.{member_nil, member_here, member_there, member_cons, member_left, member_snoc}
use Rattle.base_lists.proofs.Members.{member_last}
use Rattle.base_lists.proofs.Filters.{filter_has, filter_passes, filter_among}
use Rattle.base_lists.proofs.Tallies.{tally_same, tally_ends, tally_le}
use Rattle.order.specs.Closure.{once}
use Rattle.order.proofs.Extensions.{chain_steps}
use Rattle.plan_format.specs.Sizes.{row_places, no_operation, most_operations}
use Rattle.plan_format.specs.Plan.{Plan, count, op}
use Rattle.plan_order.specs.Precedence.{same_queue, direct, before, at_or_before}
use Rattle.plan_order.specs.Promise.{most_of, RowEpoch, RowStep}
use Rattle.plan_order.specs.Rows.{epoch, row}
use Rattle.plan_order.specs.Runs.{enabled, is_run}
use Rattle.plan_order.proofs.Demand2.{row_epoch, row_step}
use Rattle.plan_order.proofs.Precedence.{chain_before}
use Rattle.plan_order.proofs.Readiness.{Why, by_queue, by_wait, direct_why, direct_by, direct_below, queue_in}
use Rattle.plan_order.proofs.Readiness.{predecessors_run}
use Rattle.plan_order.proofs.Rows.{entry, row_at}
use Rattle.check_columns.specs.Columns.{RowColumns}
use Rattle.check_run.specs.Merge.{cell, largest, Merged}
use Rattle.check_run.specs.Run.{RunGiven, RowsOf}
use Rattle.check_run.specs.State.{Last, latest, unused, RunPlaces, Tables, slot_of}
use Rattle.check_run.proofs.Sources.{Rest, on_nothing, on_operation, source_is, source_has}
use Rattle.check_run.proofs.Readies.{Goes, run_inside, ready_gives}

-- ---- the largest of some cells, and of some rows
cells_most : (rows : List ℕ) → (k : ℕ) → List ℕ → ℕ
cells_most rows k [] = 0
cells_most rows k (x ∷ xs) = max (cell rows x k) (cells_most rows k xs)

max_assoc : (x y z : ℕ) → max (max x y) z ≡ max x (max y z)
max_assoc x y z = omega arith

four_most : (rows : List ℕ) (a b c d k : ℕ) → largest rows a b c d k ≡ cells_most rows k (a ∷ b ∷ c ∷ d ∷ [])
unfolding largest cells_most
four_most rows a b c d k =
    max_assoc (cell rows a k) (cell rows b k) (max (cell rows c k) (cell rows d k))
    ∙ ap (λ (x : ℕ). max (cell rows a k) (max (cell rows b k) (max (cell rows c k) x)))
    (let e : cell rows d k ≡ max (cell rows d k) 0 = omega arith in e)

module _ (p : Plan) (k : ℕ) where
  most_has : (ks : List ℕ) (x : ℕ) → member x ks ≡ true → get_or (row p x) k 0 ≤ most_of p k ks
  unfolding most_of
  most_has [] x m = member_nil x m
  most_has (y ∷ ys) x m =
      either (member_cons x y ys m) (λ e. omega (arith, ap (λ (z : ℕ). get_or (row p z) k 0) e))
      (λ t. omega (arith, most_has ys x t))

  most_under : (ks : List ℕ) (b : ℕ) → 0 < b → ((x : ℕ) → member x ks ≡ true → get_or (row p x) k 0 < b) →
      most_of p k ks < b
  unfolding most_of
  most_under [] b pos h = pos
  most_under (y ∷ ys) b pos h =
      omega (arith, h y (member_here y ys), most_under ys b pos (λ x m. h x (member_there x y ys m)))

  row_small : (j : ℕ) → k < 16 → get_or (row p j) k 0 ≤ count p
  unfolding entry
  row_small j l = rw (row_at p j k l) (tally_le (count p) _)

-- ---- epochs
tally_none : (f : ℕ → Bool) → tally 0 f ≡ 0
unfolding tally
tally_none f = refl

pub epoch_first : (p : Plan) (j : ℕ) → epoch p j ≡ 1 + tally j (λ k. same_queue p k j)
unfolding epoch tally same_queue
epoch_first p j = rw (eq-eqb (op p j).queue (op p j).queue refl)

-- the next on the queue has one more
epoch_next : (p : Plan) (x j : ℕ) → (op p x).queue ≡ (op p j).queue →
    ((k : ℕ) → x < k → k < j → (op p k).queue ≡ (op p j).queue → ⊥) → epoch p j ≤ 1 + epoch p x
unfolding epoch same_queue
epoch_next p x j e clear =
    let ends = tally_ends (suc x) j (λ k. same_queue p k j)
    (λ k a b. ne_eqb (op p k).queue (op p j).queue (λ z. clear k a b z)) in
    let same = tally_same (suc x) (λ k. same_queue p k j) (λ k. same_queue p k x)
    (λ k l. ap (λ (y : ℕ). eqb (op p k).queue y) (sym e)) in
    omega (arith, epoch_first p j)

-- ---- one more in the own column
own_column : (most one new x : ℕ) → one ≡ 1 → most < new → new ≤ 1 + most → x ≡ max new most → x ≤ most_operations →
    (most + one) % 65536 ≡ x
own_column most one new x a b c d e = omega arith

other_column : (most one x : ℕ) → one ≡ 0 → x ≡ max 0 most → x ≤ most_operations → (most + one) % 65536 ≡ x
other_column most one x a b c = omega arith

module _ (p : Plan) (n : ℕ) (queue source next unit : List ℕ) (shown : RunGiven p n queue source)
    (tables : Tables queue n next unit)
    (r head prev ran : List ℕ) (places : RunPlaces p r head prev ran) (q j : ℕ) (inside : q < 16)
    (goes : Goes p n queue source shown r head prev ran places q j) (rows : List ℕ) (filled : RowsOf p r rows) where
  few : count p ≤ most_operations
  few = shown.sound.few_operations

  -- ---- what is merged: an operation that has run and is directly before j, or nothing
  data Part : ℕ → Type 0 where
    nothing : Part no_operation
    operation : (x : ℕ) → member x r ≡ true → direct p x j ≡ true → Part x

  last_part : (x : ℕ) → Last p r q x → Part x
  last_part x (latest _ m e h) =
      operation x m (direct_by p x j (run_inside p n queue source shown r head prev ran places x m) goes.inside
      (by_queue before_it (e ∙ sym goes.on_queue)))
    where
      before_it : x < j
      before_it =
          by_cases (ltb x j) (λ t. ltb-true x j t) (λ f. by_cases (eqb x j)
          (λ s. clash (member j r) (subst (λ (y : ℕ). member y r ≡ true) (eqb-true x j s) m) goes.fresh)
          (λ s. clash (member j r) (queue_in p r j x (unfold is_run in places.a_run) m
          (omega (arith, ltb-false x j f, eqb-false x j s)) (goes.on_queue ∙ sym e)) goes.fresh))
  last_part x (unused h) = nothing

  rest_part : (x : ℕ) → Rest p j x → Part x
  rest_part x on_nothing = nothing
  rest_part x (on_operation _ u w m t) =
      let d = direct_by p x j u goes.inside (by_wait w m t) in
      operation x (predecessors_run p r x j (unfold is_run in places.a_run)
      (ready_gives p n queue source shown r head prev ran places j goes.is_ready).2 d) d

  part_slot : (x : ℕ) → Part x → slot_of x ≡ x
  part_slot x nothing = refl
  part_slot x (operation _ m d) = omega (arith, few, (direct_below p x j d).0)

  part_cell : (x k : ℕ) → k < 16 → Part x → cell rows x k ≡ cond (ltb x no_operation) (get_or (row p x) k 0) 0
  unfolding cell RowColumns
  part_cell x k l nothing = filled.others no_operation k (omega arith)
      (is_false (member no_operation r)
      (λ t. absurd (omega (arith, few, run_inside p n queue source shown r head prev ran places no_operation t)))) l
  part_cell x k l (operation _ m d) = filled.ran x k m l
      ∙ sym (ap (λ (b : Bool). cond b (get_or (row p x) k 0) 0)
      (lt-ltb x no_operation (omega (arith, few, (direct_below p x j d).0))))

  data Parts : List ℕ → Type 0 where
    none_left : Parts []
    one_more : (x : ℕ) (xs : List ℕ) → Part x → Parts xs → Parts (x ∷ xs)

  parts_most : (k : ℕ) → k < 16 → (xs : List ℕ) → Parts xs → cells_most rows k xs ≡ most_of p k
      (filter (λ x. ltb x no_operation) xs)
  unfolding cells_most most_of filter
  parts_most k l [] none_left = refl
  parts_most k l (x ∷ xs) (one_more _ _ h hs) =
      by_cases (ltb x no_operation)
      (λ t. rw t (ap₂ (λ (y z : ℕ). max y z) (part_cell x k l h ∙ ap (λ (b : Bool). cond b (get_or (row p x) k 0) 0) t)
      (parts_most k l xs hs)))
      (λ f. rw f (let z : cell rows x k ≡ 0 = part_cell x k l h ∙
      ap (λ (b : Bool). cond b (get_or (row p x) k 0) 0) f in
      omega (arith, parts_most k l xs hs)))

  part_known : (x : ℕ) → Part x → x < no_operation → (member x r ≡ true) × (direct p x j ≡ true)
  part_known x nothing l = absurd (omega arith)
  part_known x (operation _ m d) l = (m, d)

  parts_known : (xs : List ℕ) → Parts xs → (x : ℕ) → member x (filter (λ x. ltb x no_operation) xs) ≡ true →
      (member x r ≡ true) × (direct p x j ≡ true)
  parts_known xs hs x m = part_known x (find xs hs (filter_among (λ x. ltb x no_operation) xs x m))
      (ltb-true x no_operation (filter_passes (λ x. ltb x no_operation) xs x m))
    where
      find : (xs : List ℕ) → Parts xs → member x xs ≡ true → Part x
      find [] none_left m = member_nil x m
      find (y ∷ ys) (one_more _ _ h hs) m = either (member_cons x y ys m) (λ e. subst Part e h) (λ t. find ys hs t)

  -- ---- the four rows
  four : List ℕ
  four = get_or prev q 0 ∷ get_or source (3 * j + 0) 0 ∷ get_or source (3 * j + 1) 0 ∷ get_or source (3 * j + 2) 0 ∷ []

  last_is : Part (get_or prev q 0)
  last_is = last_part (get_or prev q 0) (places.lasts q inside)

  place_is : (k : ℕ) → k < 3 → Part (get_or source (3 * j + k) 0)
  place_is k l = rest_part (get_or source (3 * j + k) 0) (source_is p n queue source shown j k goes.inside l)

  four_parts : Parts four
  unfolding four
  four_parts =
      one_more _ _ last_is (one_more _ _ (place_is 0 (omega arith))
      (one_more _ _ (place_is 1 (omega arith)) (one_more _ _ (place_is 2 (omega arith)) none_left)))

  place_among : (k : ℕ) → k < 3 → member (get_or source (3 * j + k) 0) four ≡ true
  unfolding four
  place_among zero l = member_there _ _ _ (member_here _ _)
  place_among (suc zero) l = member_there _ _ _ (member_there _ _ _ (member_here _ _))
  place_among (suc (suc zero)) l = member_there _ _ _ (member_there _ _ _ (member_there _ _ _ (member_here _ _)))
  place_among (suc (suc (suc k))) l = absurd (omega arith)

  ks : List ℕ
  ks = filter (λ x. ltb x no_operation) four

  ks_has : (x : ℕ) → x < count p → member x four ≡ true → member x ks ≡ true
  unfolding ks
  ks_has x l m = filter_has (λ x. ltb x no_operation) four x m (lt-ltb x no_operation (omega (arith, few)))

  directs : (x : ℕ) → member x ks ≡ true → direct p x j ≡ true
  unfolding ks
  directs x m = (parts_known four four_parts x m).1

  ran_already : (x : ℕ) → member x ks ≡ true → member x r ≡ true
  unfolding ks
  ran_already x m = (parts_known four four_parts x m).0

  itself : (x : ℕ) → at_or_before p x x ≡ true
  unfolding at_or_before
  itself x = or_left (eqb x x) (before p x x) (eq-eqb x x refl)

  -- the last of the queue is at or after every earlier one
  last_covers : (x : ℕ) → Last p r q x → x ≡ get_or prev q 0 → (i : ℕ) → i < j → (op p i).queue ≡ q →
      (k : ℕ) × (member k ks ≡ true) × (at_or_before p i k ≡ true)
  unfolding at_or_before
  last_covers x (unused h) same i l e = absurd (h i (goes.earlier i l e) e)
  last_covers x (latest _ m z h) same i l e =
      let u = run_inside p n queue source shown r head prev ran places x m in
      let le = h i (goes.earlier i l e) e in (
        x,
        ks_has x u
            (subst (λ (y : ℕ). member y four ≡ true) (sym same) (unfold four in (member_here (get_or prev q 0) _))),
        by_cases (eqb i x) (λ t. or_left (eqb i x) (before p i x) t)
            (λ f. or_right (eqb i x) (before p i x) (chain_before p i x
            (once i x (direct_by p i x (omega arith) u (by_queue (omega (arith, eqb-false i x f)) (e ∙ sym z)))))),
      )

  covers : (i : ℕ) → direct p i j ≡ true → (k : ℕ) × (member k ks ≡ true) × (at_or_before p i k ≡ true)
  covers i d = of_why (direct_why p i j d)
    where
      of_why : Why p i j → (k : ℕ) × (member k ks ≡ true) × (at_or_before p i k ≡ true)
      of_why (by_queue l e) = last_covers (get_or prev q 0) (places.lasts q inside) refl i l (e ∙ goes.on_queue)
      of_why (by_wait w m t) =
          let g = source_has p n queue source shown j goes.inside w m i t in (
            i,
            ks_has i (direct_below p i j d).0
                (subst (λ (y : ℕ). member y four ≡ true) g.2 (place_among g.0 g.1)),
            itself i,
          )

  -- ---- the row
  largest_most :
      (k : ℕ) → k < 16 →
      largest rows (slot_of (get_or prev q 0)) (slot_of (get_or source (3 * j) 0))
      (slot_of (get_or source (3 * j + 1) 0))
      (slot_of (get_or source (3 * j + 2) 0)) k
      ≡ most_of p k ks
  unfolding ks four
  largest_most k l =
      let first : slot_of (get_or source (3 * j) 0) ≡ get_or source (3 * j + 0) 0 =
      ap (λ (x : ℕ). slot_of (get_or source x 0)) (let e : 3 * j ≡ 3 * j + 0 = omega arith in e)
      ∙ part_slot (get_or source (3 * j + 0) 0) (place_is 0 (omega arith)) in
      rw (
        part_slot (get_or prev q 0) last_is,
        first,
        part_slot (get_or source (3 * j + 1) 0) (place_is 1 (omega arith)),
        part_slot (get_or source (3 * j + 2) 0) (place_is 2 (omega arith)),
      )
      (four_most rows (get_or prev q 0) (get_or source (3 * j + 0) 0) (get_or source (3 * j + 1) 0)
      (get_or source (3 * j + 2) 0) k ∙ parts_most k l four four_parts)

  row_is : (k : ℕ) → k < 16 → get_or (row p j) k 0 ≡ max (cond (eqb (op p j).queue k) (epoch p j) 0) (most_of p k ks)
  unfolding RowStep
  row_is k l = row_step p j ks goes.inside directs covers k l

  -- what has run does not reach the epoch of j
  not_reached : (x : ℕ) → member x r ≡ true → get_or (row p x) q 0 < epoch p j
  unfolding RowEpoch
  not_reached x m =
      by_cases (leb (epoch p j) (get_or (row p x) q 0))
      (λ t. absurd (clash (member j r)
      (either ((row_epoch p j x goes.inside (rw goes.on_queue inside)).1
      (rw goes.on_queue (leb-true (epoch p j) (get_or (row p x) q 0) t)))
      (λ e. subst (λ (y : ℕ). member y r ≡ true) (sym e) m)
      (λ c. (chain_steps (count p) (enabled p) (direct p) (predecessors_run p) r j x
      (unfold is_run in places.a_run) m c).0))
      goes.fresh))
      (λ f. leb-false (epoch p j) (get_or (row p x) q 0) f)

  most_below : most_of p q ks < epoch p j
  most_below = most_under p q ks (epoch p j) (omega (arith, epoch_first p j)) (λ x m. not_reached x (ran_already x m))

  most_near : (x : ℕ) → Last p r q x → x ≡ get_or prev q 0 → epoch p j ≤ 1 + most_of p q ks
  unfolding RowEpoch
  most_near x (unused h) same =
      omega (
        arith,
        epoch_first p j,
        tally_ends 0 j (λ k. same_queue p k j) (λ k a b. unfold same_queue in
            (ne_eqb (op p k).queue (op p j).queue
            (λ z. h k (goes.earlier k b (z ∙ goes.on_queue)) (z ∙ goes.on_queue)))),
        tally_none (λ k. same_queue p k j),
      )
  most_near x (latest _ m z h) same =
      let u = run_inside p n queue source shown r head prev ran places x m in
      let own = rw z at ((row_epoch p x x u (rw z inside)).0 (inl refl)) in
      let near = epoch_next p x j (z ∙ sym goes.on_queue)
      (λ k a b e. absurd (omega (arith, h k (goes.earlier k b (e ∙ goes.on_queue)) (e ∙ goes.on_queue)))) in
      omega (
        arith,
        most_has p q ks x (ks_has x u
            (subst (λ (y : ℕ). member y four ≡ true) (sym same) (unfold four in (member_here (get_or prev q 0) _)))),
      )

  row_value :
      (k : ℕ) → k < 16 →
      (largest rows (slot_of (get_or prev q 0)) (slot_of (get_or source (3 * j) 0))
      (slot_of (get_or source (3 * j + 1) 0))
      (slot_of (get_or source (3 * j + 2) 0)) k
      + get_or unit (16 - q + k) 0) % 65536 ≡ get_or (row p j) k 0
  row_value k l =
      rw (largest_most k l) (by_cases (eqb q k)
      (λ t. let e = eqb-true q k t in
      own_column (most_of p k ks) (get_or unit (16 - q + k) 0) (epoch p j) (get_or (row p j) k 0)
      (ap (λ (x : ℕ). get_or unit x 0) (let z : 16 - q + k ≡ 16 = omega arith in z) ∙ tables.one)
      (subst (λ (x : ℕ). most_of p x ks < epoch p j) e most_below)
      (subst (λ (x : ℕ). epoch p j ≤ 1 + most_of p x ks) e (most_near (get_or prev q 0) (places.lasts q inside) refl))
      (row_is k l
      ∙ ap (λ (b : Bool). max (cond b (epoch p j) 0) (most_of p k ks)) (eq-eqb (op p j).queue k (goes.on_queue ∙ e)))
      (le_trans (row_small p k j l) few))
      (λ f. let ne = eqb-false q k f in
      other_column (most_of p k ks) (get_or unit (16 - q + k) 0) (get_or (row p j) k 0)
      (tables.zeros (16 - q + k) (λ z. ne (let e : q ≡ k = omega arith in e)))
      (row_is k l
      ∙ ap (λ (b : Bool). max (cond b (epoch p j) 0) (most_of p k ks))
      (ne_eqb (op p j).queue k (λ z. ne (sym goes.on_queue ∙ z))))
      (le_trans (row_small p k j l) few)))

  pub filled_more :
      (rows' : List ℕ) → length rows ≡ row_places →
      Merged rows unit j q (slot_of (get_or prev q 0)) (slot_of (get_or source (3 * j) 0))
      (slot_of (get_or source (3 * j + 1) 0)) (slot_of (get_or source (3 * j + 2) 0)) rows' →
      RowsOf p (r ++ (j ∷ [])) rows'
  unfolding RowColumns cell
  filled_more rows' long merged = record {
    ran = λ i k m l. either (member_snoc i r j m)
        (λ t. merged.elsewhere i k l (λ e. clash (member j r) (subst (λ (x : ℕ). member x r ≡ true) e t) goes.fresh)
        ∙ filled.ran i k t l)
        (λ e. subst (λ (x : ℕ). get_or rows' (16 * x + k) 0 ≡ get_or (row p x) k 0) e
        (merged.there long k l ∙ row_value k l));
    others = λ i k b f l.
        let out : member i r ≡ false =
        is_false (member i r) (λ t. clash (member i (r ++ (j ∷ []))) (member_left i r (j ∷ []) t) f) in
        let ne : i ≡ j → ⊥ = λ e. clash (member i (r ++ (j ∷ [])))
        (ap (λ (x : ℕ). member x (r ++ (j ∷ []))) e ∙ member_last j r) f in
        merged.elsewhere i k l ne ∙ filled.others i k b out l;
  }
