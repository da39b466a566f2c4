-- Where only owners signal nothing changes: the rules, the runs, the standard run and the outcome are those by owners
-- and by value. Assumes nothing.
use mathlib.Core.Path.{◌≡◌, refl, sym, ap, ap₂, ◌∙◌, subst}
use mathlib.Core.Bool.{Bool, true, ◌&&◌, not}
use mathlib.Core.Logic.{inl, inr}
use mathlib.Core.List.{List, [], ◌∷◌, ◌++◌, Memᴰ}
use mathlib.Core.Option.{Option, none, or_else}
use Prim.Native.Nat.{ℕ, zero, suc, ◌*◌, ◌<◌}
use native.Mathlib.Nat.{not-suc-le-zero, le_of_suc-le-suc, le_trans}
use native.Mathlib.Omega.{arith}
use lib.Dec.{ltb, leb, eqb}
use lib.ListN.{length, get_or, get_elem?}
use borrow.Author.Tests.{ltb-true, ltb-false, leb-true, le-leb, eqb-true, eqb-false, eq-eqb}
use Rattle.base_lists.specs.Lists.{first_from, member, all, is_some, lowest_below}
use Rattle.base_lists.proofs.Tests.{by_cases, clash, is_false, either}
use Rattle.base_lists.proofs.Places.{mem_place}
use Rattle.base_lists.proofs.Searches.{lowest_same}
use Rattle.base_lists.proofs.Tallies.{tally_same}
use Rattle.order.specs.Runs.{runs}
use Rattle.order.specs.Closure.{once}
use Rattle.order.proofs.Runs.{run_below, runs_nil, runs_head, runs_tail, runs_snoc}
use Rattle.order.proofs.Same.{same_can, same_runs, same_greedy}
use Rattle.plan_format.specs.Refusal.{Refusal, none_given, or_refusal}
use Rattle.plan_format.specs.Plan.{Point, Operation, Plan, empty_operation, count, op, queues}
use Rattle.plan_format.specs.Sound.{signals_number, signals_refusal, waits_refusal, rules_refusal, WaitsAboveZero}
use Rattle.plan_format.specs.Stored.{scanned, plan_in, plan_refusal, Tells}
use Rattle.plan_format.specs.Meaning.{SignalsGood}
use Rattle.plan_format.specs.declared.Told.{Told}
use Rattle.plan_format.proofs.Judged.{other_given}
use Rattle.plan_format.proofs.Positions.{limits_above_zero}
use Rattle.plan_format.proofs.Plans.{scanned_limits, sound_in}
use Rattle.plan_format.proofs.RulesFirst.{no_point, signal_inside, SignalsSay, signals_good, signals_seven}
use Rattle.plan_format.proofs.RulesFirst.{plan_signals_say}
use Rattle.plan_order.specs.Precedence.{Resolution, on, never, resolve}
use Rattle.plan_order.specs.Runs.{reached, rested, wait_met, earlier_run, enabled, ready, is_run, raises_in_order}
use Rattle.plan_order.specs.Runs.{ready_on, next, standard, number_ready, ready_numbers, run_list, missing}
use Rattle.plan_order.specs.Handovers.{disordered}
use Rattle.plan_order.specs.Check.{room_refusal, refused_at, order_refusal, Leaves, untouched, zeros}
use Rattle.plan_order.specs.Check.{rows_and_run, Outcome, outcome, or_then, check_outcome, left_in, table_left}
use Rattle.plan_order.specs.Check.{list_left, CheckSays}
use Rattle.plan_order.specs.Meaning.{Signals, AllInTurn}
use Rattle.plan_order.specs.OnlyOwners.{OnlyOwners, is_queue, owns, number_by_owners, signals_by_owners}
use Rattle.plan_order.specs.OnlyOwners.{rules_by_owners, met_by_value, enabled_by_value, ready_by_value}
use Rattle.plan_order.specs.OnlyOwners.{is_run_by_value, ready_on_by_value, next_by_value, standard_by_value}
use Rattle.plan_order.specs.OnlyOwners.{number_ready_by_value, ready_numbers_by_value, run_list_by_value}
use Rattle.plan_order.specs.OnlyOwners.{missing_by_value, order_by_value, outcome_by_owners, list_by_value}
use Rattle.plan_order.specs.OnlyOwners.{ByOwners}
use Rattle.plan_order.proofs.Signals.{signals_value, value_under, rises}
use Rattle.plan_order.proofs.Resolution.{ResolutionCase, at_signal, at_none, resolve_is}
use Rattle.plan_order.proofs.Readiness.{reached_has, reached_gives, queue_in, wait_above, by_queue, direct_by}
use Rattle.plan_order.proofs.Standard.{next_ready, standard_runs}
use Rattle.plan_order.proofs.Raises.{InPlanOrder, runs_raise}
use Rattle.plan_order.proofs.OrderMeaning.{signals_means}
use Rattle.plan_order.proofs.HandoversMeaning.{ordered_means}
use Rattle.plan_order.proofs.Demand3.{rules_good}
use Rattle.plan_order.proofs.CheckMeaning.{check_means}
use Rattle.plan_order.proofs.OutcomeMeaning.{leaves_passed}

-- ---- owners by places
queue_at : (os : List ℕ) (q s : ℕ) → (s < length os) → get_or os s 0 ≡ q → is_queue (get_elem? os s) q ≡ true
unfolding is_queue
queue_at [] q s l e = absurd (not-suc-le-zero l)
queue_at (o ∷ os) q zero l e = eq-eqb o q e
queue_at (o ∷ os) q (suc s) l e = queue_at os q s (le_of_suc-le-suc l) e

-- ---- 7 and 8
numbers_same : (p : Plan) (q : ℕ) (bs : List Operation) (own xs : List Point) →
    ((x : Point) → Memᴰ x xs → owns p q x.semaphore ≡ true) →
    signals_number bs own xs ≡ number_by_owners p q bs own xs
unfolding signals_number number_by_owners
numbers_same p q bs own [] h = refl
numbers_same p q bs own (x ∷ xs) h =
    let rest = numbers_same p q bs (x ∷ own) xs (λ y m. h y (mathlib.Core.List.Memᴰ.tail m)) in
    let mine = h x (mathlib.Core.List.Memᴰ.head refl) in
    rw (mine, rest) refl

signals_same : (i : ℕ) (p : Plan) (bs os : List Operation) →
    ((o : Operation) → Memᴰ o os → (x : Point) → Memᴰ x o.signals →
    owns p o.queue x.semaphore ≡ true) →
    signals_refusal i bs os ≡ signals_by_owners i p bs os
unfolding signals_refusal signals_by_owners
signals_same i p bs [] h = refl
signals_same i p bs (o ∷ os) h =
    rw (
      numbers_same p o.queue bs [] o.signals (h o (mathlib.Core.List.Memᴰ.head refl)),
      signals_same (suc i) p (bs ++ (o ∷ [])) os (λ z m. h z (mathlib.Core.List.Memᴰ.tail m)),
    ) refl

module _ (p : Plan) (owners : OnlyOwners p) where
  owned : (o : Operation) → Memᴰ o p.operations → (x : Point) → Memᴰ x o.signals →
      owns p o.queue x.semaphore ≡ true
  unfolding owns op
  owned o m x t =
      let i = mem_place p.operations empty_operation o m in
      let u : Memᴰ x (op p i.0).signals = subst (λ (z : Operation). Memᴰ x z.signals) (sym i.2) t in
      let k = mem_place (op p i.0).signals no_point x u in
      let w = owners i.0 k.0 k.1 in
      subst (λ (z : Operation). is_queue (get_elem? p.owners x.semaphore) z.queue ≡ true) i.2
      (subst (λ (z : Point). is_queue (get_elem? p.owners z.semaphore) (op p i.0).queue ≡ true) k.2
      (queue_at p.owners (op p i.0).queue _ w.0 w.1))

  pub rules_same : rules_refusal p ≡ rules_by_owners p
  unfolding rules_refusal rules_by_owners
  rules_same =
      ap (λ (f : Refusal). or_refusal f (waits_refusal 0 p p.operations)) (signals_same 0 p [] p.operations owned)

  -- ---- one queue signals a semaphore
  owner_queue : (i s v : ℕ) → Signals p i s v → get_or p.owners s 0 ≡ (op p i).queue
  owner_queue i s v w =
      let k = mem_place (op p i).signals no_point w.0 w.1 in
      ap (λ (z : ℕ). get_or p.owners z 0) (sym (ap (λ (z : Point). z.semaphore) k.2 ∙ w.2))
      ∙ (owners i k.0 k.1).1

  one_queue : (i k s v w : ℕ) → signals_value s v (op p i).signals ≡ true →
      signals_value s w (op p k).signals ≡ true → (op p i).queue ≡ (op p k).queue
  one_queue i k s v w h g =
      sym (owner_queue i s v ((signals_means p i s v).0 h)) ∙ owner_queue k s w ((signals_means p k s w).0 g)

  -- 17 is never given
  all_in_turn : AllInTurn p
  all_in_turn i k is j l w =
      either w.earlier
      (λ lower. inr (once j i (direct_by p j i (signal_inside p j l w.earlier_signal) (signal_inside p i k is)
      (by_queue lower (sym (owners j l w.earlier_signal).1
      ∙ ap (λ (s : ℕ). get_or p.owners s 0) w.one_semaphore ∙ (owners i k is).1)))))
      (λ same. inl same.0)

  pub in_turn : ◌≡◌ {A = Option ℕ} (disordered p) none
  in_turn = (ordered_means p).1 all_in_turn

  module _ (rising : (signals_refusal 0 [] p.operations).number ≡ 0) where
    pub raises_same : (r : List ℕ) → is_run p r ≡ true → raises_in_order p r ≡ true
    unfolding is_run
    raises_same r h = runs_raise p rising (enabled p) in_order r h
      where
        in_order : InPlanOrder p (enabled p)
        in_order r h i k s v w l b e g m = queue_in p r i k h m l (one_queue i k s v w e g)

    -- ---- after a run a wait is met by value exactly when what it rests on has run
    module _ (r : List ℕ) (h : runs (count p) (enabled p) [] r ≡ true) where
      on_same : (w : Point) → 0 < w.value → (z : Resolution) → ResolutionCase p w z →
          rested r z ≡ met_by_value p r w
      unfolding met_by_value rested
      on_same w above (on x) (at_signal _ t) =
          by_cases (member x.operation r)
          (λ m. m ∙ sym (le-leb w.value (reached p w.semaphore r)
          (le_trans (omega (
            arith,
            t.enough,
            value_under w.semaphore x.value (op p x.operation).signals t.signalled,
          ))
          (reached_has p w.semaphore r x.operation m))))
          (λ f. f ∙ sym (is_false (leb w.value (reached p w.semaphore r)) (λ u.
          let i = x.operation in
          let g = reached_gives p w.semaphore w.value r above
          (leb-true w.value (reached p w.semaphore r) u) in
          let kb = run_below (count p) (enabled p) r h g.0 g.2 in
          let least = t.least g.0 g.1 kb g.4 g.3 in
          by_cases (ltb i g.0)
          (λ l. clash (member i r) (queue_in p r i g.0 h g.2 (ltb-true i g.0 l)
          (one_queue i g.0 w.semaphore x.value g.1 t.signalled g.4)) f)
          (λ l. by_cases (eqb i g.0)
          (λ q. clash (member i r) (subst (λ (z : ℕ). member z r ≡ true) (sym (eqb-true i g.0 q)) g.2) f)
          (λ q. let up = rises p rising g.0 i w.semaphore g.1 x.value
          (omega (arith, ltb-false i g.0 l, eqb-false i g.0 q)) t.inside g.4 t.signalled in
          omega arith)))))
      on_same w above never (at_none none_such) =
          sym (is_false (leb w.value (reached p w.semaphore r)) (λ u.
          let g = reached_gives p w.semaphore w.value r above
          (leb-true w.value (reached p w.semaphore r) u) in
          omega (arith, g.3, none_such g.0 g.1 (run_below (count p) (enabled p) r h g.0 g.2) g.4)))

      waits_same : (w : Point) → 0 < w.value → wait_met p r w ≡ met_by_value p r w
      unfolding wait_met
      waits_same w above = on_same w above (resolve p w) (resolve_is p w)

      all_same : (ws : List Point) → ((w : Point) → Memᴰ w ws → 0 < w.value) →
          all (λ w. wait_met p r w) ws ≡ all (λ w. met_by_value p r w) ws
      unfolding all
      all_same [] above = refl
      all_same (w ∷ ws) above =
          ap₂ (λ (a b : Bool). a && b) (waits_same w (above w (mathlib.Core.List.Memᴰ.head refl)))
          (all_same ws (λ v m. above v (mathlib.Core.List.Memᴰ.tail m)))

    pub met_same : (r : List ℕ) → is_run p r ≡ true → (w : Point) → 0 < w.value →
        wait_met p r w ≡ met_by_value p r w
    unfolding is_run
    met_same r h w above = waits_same r h w above

    module _ (above_zero : WaitsAboveZero p) where
      -- ---- the runs are the same
      enabled_same : (r : List ℕ) → runs (count p) (enabled p) [] r ≡ true → (j : ℕ) →
          enabled p r j ≡ enabled_by_value p r j
      unfolding enabled enabled_by_value
      enabled_same r h j =
          ap (λ (b : Bool). earlier_run p r j && b) (all_same r h (op p j).waits (wait_above p above_zero j))

      abbrev here : List ℕ → ℕ → Bool
      here r j = enabled p r j

      abbrev there : List ℕ → ℕ → Bool
      there r j = enabled_by_value p r j

      agree : (r : List ℕ) (j : ℕ) → runs (count p) here [] r ≡ true → runs (count p) there [] r ≡ true → j < count p →
          here r j ≡ there r j
      agree r j a b l = enabled_same r a j

      pub runs_same : (r : List ℕ) → is_run p r ≡ is_run_by_value p r
      unfolding is_run_by_value is_run
      runs_same r =
          same_runs (count p) here there agree [] r (runs_nil (count p) here []) (runs_nil (count p) there [])

      module _ (r : List ℕ) (h : is_run p r ≡ true) where
        ready_same : (j : ℕ) → ready p r j ≡ ready_by_value p r j
        unfolding ready ready_by_value is_run is_run_by_value
        ready_same j = same_can (count p) here there agree r j h (sym (runs_same r) ∙ h)

        ready_on_same : (q : ℕ) → ready_on p r q ≡ ready_on_by_value p r q
        unfolding ready_on ready_on_by_value
        ready_on_same q =
            lowest_same (count p) (λ j. eqb (op p j).queue q && ready p r j)
            (λ j. eqb (op p j).queue q && ready_by_value p r j)
            (λ j l. ap (λ (b : Bool). eqb (op p j).queue q && b) (ready_same j))

        first_same : (left i : ℕ) → first_from left i (ready_on p r) ≡ first_from left i (ready_on_by_value p r)
        unfolding first_from
        first_same zero i = refl
        first_same (suc k) i = ap₂ (λ (a b : Option ℕ). or_else a b) (ready_on_same i) (first_same k (suc i))

        next_same : next p r ≡ next_by_value p r
        unfolding next next_by_value
        next_same = first_same (queues p) 0

        number_ready_same : number_ready p r ≡ number_ready_by_value p r
        unfolding number_ready number_ready_by_value
        number_ready_same =
            tally_same (queues p) (λ q. is_some (ready_on p r q)) (λ q. is_some (ready_on_by_value p r q))
            (λ q l. ap is_some (ready_on_same q))

      -- ---- the standard run is the same
      pub standard_same : standard p ≡ standard_by_value p
      unfolding standard standard_by_value is_run ready
      standard_same =
          same_greedy (count p) here (λ r. next p r) (λ r. next_by_value p r) (next_ready p) next_same (count p) []
          (runs_nil (count p) here [])

      ready_numbers_same : (r js : List ℕ) → runs (count p) here [] r ≡ true → runs (count p) here r js ≡ true →
          ready_numbers p r js ≡ ready_numbers_by_value p r js
      unfolding ready_numbers ready_numbers_by_value is_run
      ready_numbers_same r [] a b = refl
      ready_numbers_same r (j ∷ js) a b =
          ap₂ (λ (n : ℕ) (ns : List ℕ). n ∷ ns) (number_ready_same r a)
          (ready_numbers_same (r ++ (j ∷ [])) js (runs_snoc (count p) here r j a (runs_head (count p) here r j js b))
          (runs_tail (count p) here r j js b))

      pub run_list_same : ((j : ℕ) → j < count p → (op p j).queue < queues p) → run_list p ≡ run_list_by_value p
      unfolding run_list run_list_by_value is_run
      run_list_same known =
          ap (λ (ns : List ℕ). standard p ++ ns)
          (ready_numbers_same [] (standard p) (runs_nil (count p) here []) (standard_runs p known))
          ∙ ap (λ (r : List ℕ). r ++ ready_numbers_by_value p [] r) standard_same

      pub missing_same : missing p ≡ missing_by_value p
      unfolding missing missing_by_value
      missing_same = ap (λ (r : List ℕ). lowest_below (count p) (λ j. not (member j r))) standard_same

      pub order_same : order_refusal p ≡ order_by_value p
      unfolding order_refusal order_by_value refused_at
      order_same = rw (in_turn, missing_same) refl

-- every signal rises, and so 7 is not given
rising_by : (p : Plan) → SignalsGood p → (signals_refusal 0 [] p.operations).number ≡ 0
unfolding none_given
rising_by p good = of_case (signals_refusal 0 [] p.operations) (plan_signals_say p)
  where
    of_case : (f : Refusal) → SignalsSay p f → f.number ≡ 0
    of_case f (signals_good e _) = ap (λ (z : Refusal). z.number) e
    of_case f (signals_seven i k e w) = absurd (w.not_rising (good i k w.signal))

-- ---- the outcome
-- the refusals of the plan, of room and of the order, in turn
abbrev judged : (plan room order : Refusal) → Outcome
judged f r o =
    or_then (outcome f untouched)
    (or_then (outcome r untouched) (or_then (outcome o zeros) (outcome none_given rows_and_run)))

judged_same : (f r a b : Refusal) → (f.number ≡ 0 → a ≡ b) → judged f r a ≡ judged f r b
judged_same f r a b h =
    by_cases (eqb f.number 0) (λ t. ap (λ (o : Refusal). judged f r o) (h (eqb-true f.number 0 t)))
    (λ n. let g = other_given f (eqb-false f.number 0 n) in unfold or_then outcome in (rw g refl))

module _ (bs : List ℕ) (owners : OnlyOwners (plan_in bs)) where
  plan_good : (plan_refusal bs).number ≡ 0 → (signals_refusal 0 [] (plan_in bs).operations).number ≡ 0
  plan_good z = (rules_good (plan_in bs) (sound_in bs z)).0

  pub outcome_same : (t l : ℕ) → check_outcome bs t l ≡ outcome_by_owners bs t l
  unfolding check_outcome outcome_by_owners plan_refusal
  outcome_same t l =
      let p = plan_in bs in
      let room = room_refusal (count p) t l in
      judged_same (plan_refusal bs) room (order_refusal p) (order_by_value p)
      (λ z. order_same p owners (plan_good z) (sound_in bs z).waits_above_zero)
      ∙ ap (λ (f : Refusal). judged (or_refusal (scanned bs).fault f) room (order_by_value p)) (rules_same p owners)

  -- rows and run are left only where the plan is not refused
  left_good : (t l : ℕ) → (check_outcome bs t l).leaves ≡ rows_and_run → (plan_refusal bs).number ≡ 0
  left_good t l e =
      by_cases (eqb (plan_refusal bs).number 0) (λ z. eqb-true (plan_refusal bs).number 0 z)
      (λ n. let bad = eqb-false (plan_refusal bs).number 0 n in
      absurd (bad (sym (ap (λ (f : Refusal). f.number) ((check_means bs t l).plan_first bad).0)
      ∙ leaves_passed bs t l e)))

  left_same : (v : Leaves) (l : List ℕ) →
      (v ≡ rows_and_run → run_list (plan_in bs) ≡ run_list_by_value (plan_in bs)) →
      list_left v (plan_in bs) l ≡ list_by_value v (plan_in bs) l
  unfolding list_left list_by_value left_in
  left_same untouched l h = refl
  left_same zeros l h = refl
  left_same rows_and_run l h = ap (λ (new : List ℕ). left_in rows_and_run (2 * count (plan_in bs)) new l) (h refl)

  runs_left : (plan_refusal bs).number ≡ 0 → run_list (plan_in bs) ≡ run_list_by_value (plan_in bs)
  runs_left z =
      let sound = sound_in bs z in
      run_list_same (plan_in bs) owners (plan_good z) sound.waits_above_zero (λ j a. (sound.in_range j a).queue)

  pub by_owners : (r : Told) (t x l y : List ℕ) → CheckSays bs r t x l y → ByOwners bs r t x l y
  unfolding CheckSays
  by_owners r t x l y s =
      let p = plan_in bs in
      let o = check_outcome bs (length t) (length l) in
      let same = outcome_same (length t) (length l) in
      record {
        tells = subst (λ (z : Outcome). Tells z.refusal 0 r) same s.tells;
        table_holds = subst (λ (z : Outcome). x ≡ table_left z.leaves p t) same s.table_holds;
        list_holds = subst (λ (z : Outcome). y ≡ list_by_value z.leaves p l) same
            (s.list_holds ∙ left_same o.leaves l (λ e. runs_left (left_good (length t) (length l) e)));
        runs = λ read good. runs_same p owners (rising_by p good) (limits_above_zero (scanned_limits bs read));
        waits = λ good. met_same p owners (rising_by p good);
        raises = λ good. raises_same p owners (rising_by p good);
        standard_run = λ read good. standard_same p owners (rising_by p good)
            (limits_above_zero (scanned_limits bs read));
      }
