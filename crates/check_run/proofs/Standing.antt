-- Where the run is on each queue after one operation more. Assumes nothing.
use mathlib.Core.Path.{◌≡◌, sym, ap, ◌∙◌, subst}
use mathlib.Core.Bool.{Bool, true, false, cond}
use mathlib.Core.List.{List, [], ◌∷◌, ◌++◌}
use Prim.Native.Nat.{ℕ, suc, ◌≤◌, ◌<◌}
use native.Mathlib.Omega.{arith}
use lib.Dec.{ltb, eqb}
use lib.ListN.{length, get_or, set, length-set}
use lib.Seq.{get_or-set_same, get_or-set_other}
use borrow.Author.Tests.{ltb-true, ltb-false, eqb-true, eqb-false}
use Rattle.base_lists.specs.Lists.{member}
use Rattle.base_lists.proofs.Tests.{by_cases, clash, is_false, either}
use Rattle.base_lists.proofs.Members.{member_left, member_snoc, member_last}
use Rattle.order.proofs.Runs.{runs_snoc}
use Rattle.plan_format.specs.Sizes.{no_operation}
use Rattle.plan_format.specs.Plan.{Plan, count, op}
use Rattle.plan_order.specs.Runs.{enabled, ready, is_run}
use Rattle.plan_order.proofs.Readiness.{queue_in}
use Rattle.check_columns.specs.Columns.{QueueColumn}
use Rattle.check_run.specs.Queues.{FirstFrom, found, absent}
use Rattle.check_run.specs.Run.{RunGiven}
use Rattle.check_run.specs.State.{Head, waiting, finished, Last, latest, unused, RunPlaces, Tables}
use Rattle.check_run.proofs.Readies.{Goes}

module _ (p : Plan) (n : ℕ) (queue source next unit : List ℕ) (shown : RunGiven p n queue source)
    (tables : Tables queue n next unit)
    (r head prev ran : List ℕ) (places : RunPlaces p r head prev ran) (q j : ℕ) (inside : q < 16)
    (goes : Goes p n queue source shown r head prev ran places q j) (head' prev' ran' : List ℕ)
    (head_is : head' ≡ set head q (get_or next j 0)) (prev_is : prev' ≡ set prev q j)
    (ran_is : ran' ≡ set ran j 1) where
  -- ---- members of the longer run
  grows : (i : ℕ) → member i r ≡ true → member i (r ++ (j ∷ [])) ≡ true
  grows i m = member_left i r (j ∷ []) m

  still_out : (i : ℕ) → member i r ≡ false → (i ≡ j → ⊥) → member i (r ++ (j ∷ [])) ≡ false
  still_out i f ne =
      is_false (member i (r ++ (j ∷ [])))
      (λ t. either (member_snoc i r j t) (λ u. clash (member i r) u f) (λ e. ne (sym e)))

  -- j is before whatever of its queue comes later
  later_out : (i : ℕ) → j < i → (op p i).queue ≡ q → member i r ≡ false
  later_out i l e =
      is_false (member i r)
      (λ t. clash (member j r) (queue_in p r j i (unfold is_run in places.a_run) t l (goes.on_queue ∙ sym e))
      goes.fresh)

  -- up to j every operation of the queue has run
  up_to : (k : ℕ) → k ≤ j → (op p k).queue ≡ q → member k (r ++ (j ∷ [])) ≡ true
  up_to k l e =
      by_cases (eqb k j)
      (λ t. subst (λ (x : ℕ). member x (r ++ (j ∷ [])) ≡ true) (sym (eqb-true k j t)) (member_last j r))
      (λ f. grows k (goes.earlier k (omega (arith, eqb-false k j f)) e))

  column : (i : ℕ) → i < count p → get_or queue i 0 ≡ (op p i).queue
  unfolding QueueColumn
  column i l = shown.queues i l

  -- ---- the heads
  next_head : (x : ℕ) → FirstFrom queue q (suc j) n x → Head p (r ++ (j ∷ [])) q x
  next_head x (found _ a b e clear) =
      let l : x < count p = omega (arith, shown.many) in
      let on_it : (op p x).queue ≡ q = sym (column x l) ∙ e in
      waiting x l on_it (still_out x (later_out x a on_it) (λ z. omega arith))
      (λ k u z. by_cases (ltb j k) (λ t. absurd (clear k (ltb-true j k t) u (column k (omega arith) ∙ z)))
      (λ f. up_to k (ltb-false j k f) z))
  next_head x (absent clear) =
      finished
      (λ k u z. by_cases (ltb j k)
      (λ t. absurd (clear k (ltb-true j k t) (omega (arith, shown.many)) (column k u ∙ z)))
      (λ f. up_to k (ltb-false j k f) z))

  other_head : (k x : ℕ) → (q ≡ k → ⊥) → Head p r k x → Head p (r ++ (j ∷ [])) k x
  other_head k x ne (waiting _ l e f earlier) =
      waiting x l e (still_out x f (λ z. ne (sym goes.on_queue ∙ ap (λ (y : ℕ). (op p y).queue) (sym z) ∙ e)))
      (λ i u z. grows i (earlier i u z))
  other_head k x ne (finished h) = finished (λ i u z. grows i (h i u z))

  own_head : Head p (r ++ (j ∷ [])) q (get_or head' q 0)
  own_head =
      let l : j < n = omega (arith, goes.inside, shown.many) in
      let qj : get_or queue j 0 ≡ q = column j goes.inside ∙ goes.on_queue in
      let f : FirstFrom queue q (suc j) n (get_or next j 0) =
      subst (λ (x : ℕ). FirstFrom queue x (suc j) n (get_or next j 0)) qj (tables.nexts j l (rw qj inside)) in
      subst (λ (x : ℕ). Head p (r ++ (j ∷ [])) q x)
      (sym (ap (λ (x : List ℕ). get_or x q 0) head_is
      ∙ get_or-set_same head q (get_or next j 0) 0 (let h : q < length head =
      omega (arith, places.head_long) in h)
      ))
      (next_head (get_or next j 0) f)

  -- ---- the last that ran
  own_last : Last p (r ++ (j ∷ [])) q (get_or prev' q 0)
  own_last =
      subst (λ (x : ℕ). Last p (r ++ (j ∷ [])) q x)
      (sym (ap (λ (x : List ℕ). get_or x q 0) prev_is
      ∙ get_or-set_same prev q j 0 (let h : q < length prev = omega (arith, places.prev_long) in h)))
      (latest j (member_last j r) goes.on_queue (λ k m e. either (member_snoc k r j m)
      (λ t. by_cases (ltb j k) (λ u. clash (member k r) t (later_out k (ltb-true j k u) e)) (λ u. ltb-false j k u))
      (λ z. omega arith)))

  other_last : (k x : ℕ) → (q ≡ k → ⊥) → Last p r k x → Last p (r ++ (j ∷ [])) k x
  other_last k x ne (latest _ m e h) =
      latest x (grows x m) e
      (λ i t z. either (member_snoc i r j t) (λ u. h i u z)
      (λ s. absurd (ne (sym goes.on_queue ∙ ap (λ (y : ℕ). (op p y).queue) s ∙ z))))
  other_last k x ne (unused h) =
      unused
      (λ i t z. either (member_snoc i r j t) (λ u. h i u z)
      (λ s. ne (sym goes.on_queue ∙ ap (λ (y : ℕ). (op p y).queue) s ∙ z)))

  -- ---- what has run
  ran_now : (i : ℕ) → i < no_operation → get_or ran' i 0 ≡ cond (member i (r ++ (j ∷ []))) 1 0
  ran_now i l = ap (λ (x : List ℕ). get_or x i 0) ran_is ∙ by_cases (eqb i j)
      (λ t. let e = eqb-true i j t in
      ap (λ (x : ℕ). get_or (set ran j 1) x 0) e
      ∙ get_or-set_same ran j 1 0 (let h : j < length ran = omega (arith, places.ran_long) in h)
      ∙ sym (ap (λ (b : Bool). cond b 1 0) (ap (λ (x : ℕ). member x (r ++ (j ∷ []))) e ∙ member_last j r)))
      (λ f. let ne = eqb-false i j f in
      get_or-set_other ran j i 1 0 ne ∙ places.has_run i l ∙ ap (λ (b : Bool). cond b 1 0)
      (by_cases (member i r) (λ t. t ∙ sym (grows i t)) (λ u. u ∙ sym (still_out i u ne))))

  pub places_more : RunPlaces p (r ++ (j ∷ [])) head' prev' ran'
  unfolding is_run ready
  places_more = record {
    a_run = runs_snoc (count p) (enabled p) r j places.a_run goes.is_ready;
    heads = λ k l. by_cases (eqb q k)
        (λ t. subst (λ (x : ℕ). Head p (r ++ (j ∷ [])) x (get_or head' x 0)) (eqb-true q k t) own_head)
        (λ f. let ne = eqb-false q k f in
        subst (λ (x : ℕ). Head p (r ++ (j ∷ [])) k x)
        (sym (ap (λ (x : List ℕ). get_or x k 0) head_is
        ∙ get_or-set_other head q k (get_or next j 0) 0 (λ z. ne (sym z))))
        (other_head k (get_or head k 0) ne (places.heads k l)));
    lasts = λ k l. by_cases (eqb q k)
        (λ t. subst (λ (x : ℕ). Last p (r ++ (j ∷ [])) x (get_or prev' x 0)) (eqb-true q k t) own_last)
        (λ f. let ne = eqb-false q k f in
        subst (λ (x : ℕ). Last p (r ++ (j ∷ [])) k x)
        (sym (ap (λ (x : List ℕ). get_or x k 0) prev_is ∙ get_or-set_other prev q k j 0 (λ z. ne (sym z))))
        (other_last k (get_or prev k 0) ne (places.lasts k l)));
    has_run = ran_now;
    none_run = ap (λ (x : List ℕ). get_or x no_operation 0) ran_is ∙ get_or-set_other ran j no_operation 1 0
        (λ z. absurd (omega (arith, goes.inside, shown.sound.few_operations))) ∙ places.none_run;
    head_long = ap length head_is ∙ length-set head q (get_or next j 0) ∙ places.head_long;
    prev_long = ap length prev_is ∙ length-set prev q j ∙ places.prev_long;
    ran_long = ap length ran_is ∙ length-set ran j 1 ∙ places.ran_long;
  }
