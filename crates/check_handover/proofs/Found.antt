-- What the walk finds is the lowest operation with a signal out of turn. Assumes nothing.
use mathlib.Core.Path.{◌≡◌, refl, sym, ap, ◌∙◌, subst}
use mathlib.Core.Bool.{Bool, true, false, not, cond, false≢true}
use mathlib.Core.Logic.{◌⊎◌, inl, inr}
use mathlib.Core.List.Memᴰ
use mathlib.Core.List.{List, [], ◌∷◌, Memᴰ}
use mathlib.Core.Option.{Option, none, some}
use Prim.Native.Nat.{ℕ, suc, ◌%◌, ◌≤◌, ◌<◌}
use native.Mathlib.Omega.{arith}
use lib.Dec.{leb, eqb}
use lib.ListN.{length, get_or, set, drop, replicate, length-set, length-replicate, get_or-replicate}
use lib.Seq.{get_or-set_same, get_or-set_other}
use borrow.Author.Tests.{leb-true, leb-false, le-leb, lt-leb, lt-ltb, le-ltb, eqb-true, eqb-false, not-true, not-false}
use Rattle.std.specs.Prelude.{unwrap_or, IfSome}
use Rattle.std.specs.Prelude as option
use Rattle.base_lists.specs.Lists.{place_or}
use Rattle.base_lists.proofs.Tests.{by_cases, by_option, clash, either}
use Rattle.base_lists.proofs.Pairwise.{Pairwise, pairwise_head, pairwise_tail}
use Rattle.plan_format.specs.Sizes.{most_semaphores, first_semaphores, most_operations, no_operation}
use Rattle.plan_format.specs.Plan.{Plan, count}
use Rattle.plan_format.proofs.Heights.{begins}
use Rattle.plan_format.proofs.RulesFirst.{signal_inside}
use Rattle.plan_order.specs.Precedence.{Signal, no_signal, plan_signals, before, at_or_before}
use Rattle.plan_order.specs.Holdings.{Ask, met}
use Rattle.plan_order.specs.Handovers.{last_signaller, handover, handovers_from, handovers, disordered}
use Rattle.plan_order.proofs.SignalPlaces.{signal, Sooner, sooner_low, signal_there, plan_rising}
use Rattle.plan_order.proofs.Handovers.{disordered_some, disordered_none, handover_inside}
use Rattle.plan_order.proofs.OnlyOwners.{in_turn}
use Rattle.check_columns.proofs.Ordered.{ordered_right}
use Rattle.check_handover.specs.Walk.{none_yet, held, unturned, turn_walk, turns_found, first_unturned}
use Rattle.check_handover.specs.Given.{HandoversGiven}

-- ---- the same walk over signals, with the table as a function of what was signalled before
module _ (out : (g i : ℕ) → Bool) where
  unfoldable out_after : Option ℕ → ℕ → Bool
  out_after none i = false
  out_after (some g) i = out g i

  unfoldable first_out : (n : ℕ) → (earlier rest : List Signal) → ℕ
  first_out n bs [] = n
  first_out n bs (x ∷ xs) =
      cond (out_after (last_signaller x.semaphore bs) x.operation) x.operation (first_out n (x ∷ bs) xs)

-- ---- the table
unfoldable code : Option ℕ → ℕ
code none = no_operation
code (some g) = g

record Shows (semaphores : ℕ) (table : List ℕ) (bs : List Signal) : Type 0 where
  room : semaphores ≤ length table
  each : (s : ℕ) → s < semaphores → get_or table s 0 ≡ code (last_signaller s bs)

shows_none : (semaphores : ℕ) → semaphores ≤ most_semaphores → Shows semaphores (none_yet semaphores) []
unfolding last_signaller code none_yet
shows_none semaphores few =
    by_cases (leb semaphores first_semaphores)
    (λ t. rw t (shown first_semaphores (leb-true semaphores first_semaphores t)))
    (λ f. rw f (shown most_semaphores few))
  where
    shown : (many : ℕ) → semaphores ≤ many → Shows semaphores (replicate many no_operation) []
    shown many h = unfold last_signaller code in (record {
      room = omega (arith, length-replicate {A = ℕ} many no_operation);
      each = λ s l. get_or-replicate many s no_operation 0 (omega arith);
    })

shows_more : (semaphores : ℕ) (table : List ℕ) (bs : List Signal) (x : Signal) → x.semaphore < semaphores →
    Shows semaphores table bs → Shows semaphores (set table x.semaphore x.operation) (x ∷ bs)
unfolding last_signaller code
shows_more semaphores table bs x l w = record {
  room = omega (arith, length-set table x.semaphore x.operation, w.room);
  each = λ s b. by_cases (eqb x.semaphore s)
      (λ t. rw t (ap (λ (z : ℕ). get_or (set table x.semaphore x.operation) z 0) (sym (eqb-true x.semaphore s t))
      ∙ get_or-set_same table x.semaphore x.operation 0 (omega (arith, w.room))))
      (λ f. rw f (get_or-set_other table x.semaphore s x.operation 0
      (λ e. eqb-false x.semaphore s f (sym e)) ∙ w.each s b));
}

-- ---- the walk over the columns is the walk over the signals
module _ (p : Plan) (n semaphores signals : ℕ) (owned : Bool) (queue ssem sop rows : List ℕ)
    (c : HandoversGiven p n semaphores signals owned queue ssem sop rows) where
  abbrev out : (g i : ℕ) → Bool
  out g i = not (at_or_before p g i)

  known : (x : Signal) → Memᴰ x (plan_signals p) → (x.operation < count p) × (x.semaphore < semaphores)
  unfolding signal
  known x m =
      let t = signal_there p x m in
      let inside = signal_inside p x.operation x.position t.0 in
      let low = (c.sound.in_range x.operation inside).signals x.position t.0 in
      (inside, omega (arith, c.own_semaphores, low, ap (λ (z : Signal). z.semaphore) t.1))

  -- the test by rows
  tested : (o : Option ℕ) (i : ℕ) → ((g : ℕ) → o ≡ some g → g < count p) → i < count p →
      unturned queue rows (code o) i ≡ out_after out o i
  unfolding unturned code out_after
  tested none i h l = rw (le-ltb no_operation no_operation (omega arith)) refl
  tested (some g) i h l =
      let low = h g refl in
      rw (
        lt-ltb g no_operation (omega (arith, c.sound.few_operations)),
        ordered_right p c.sound queue rows c.queues_shown c.rows_shown g i low l,
      ) refl

  earlier_inside : (s g : ℕ) (bs : List Signal) → ((y : Signal) → Memᴰ y bs → y.operation < count p) →
      last_signaller s bs ≡ some g → g < count p
  unfolding last_signaller
  earlier_inside s g [] h e = absurd (let q : ◌≡◌ {A = ℕ} 0 1 = cc in omega arith)
  earlier_inside s g (x ∷ xs) h e =
      by_cases (eqb x.semaphore s)
      (λ t. let e' : some x.operation ≡ some g = rw t at e in
      let q : x.operation ≡ g = cc in subst (λ (z : ℕ). z < count p) q (h x (Memᴰ.head refl)))
      (λ f. earlier_inside s g xs (λ y m. h y (Memᴰ.tail m)) (rw f at e))

  walked : (m k : ℕ) (table : List ℕ) (bs xs : List Signal) → drop k (plan_signals p) ≡ xs →
      ((y : Signal) → Memᴰ y xs → Memᴰ y (plan_signals p)) →
      ((y : Signal) → Memᴰ y bs → y.operation < count p) → Shows semaphores table bs →
      turn_walk queue rows ssem sop m (length xs) k table ≡ first_out out m bs xs
  unfolding turn_walk first_out
  walked m k table bs [] e sub below w = refl
  walked m k table bs (x ∷ xs) e sub below w =
      let d = begins no_signal (plan_signals p) k x xs e in
      let in_plan = sub x (Memᴰ.head refl) in
      let kn = known x in_plan in
      let inside : k < signals = omega (arith, d.inside, c.signals_shown.all) in
      let sem : get_or ssem k 0 ≡ x.semaphore =
      c.signals_shown.semaphores k inside ∙ ap (λ (z : Signal). z.semaphore) d.here in
      let by_it : get_or sop k 0 ≡ x.operation =
      c.signals_shown.operations k inside ∙ ap (λ (z : Signal). z.operation) d.here in
      let cut : get_or sop k 0 % most_operations ≡ x.operation =
      omega (arith, by_it, kn.0, c.sound.few_operations) in
      let test : unturned queue rows (get_or table x.semaphore 0) x.operation
      ≡ out_after out (last_signaller x.semaphore bs) x.operation =
      ap (λ (z : ℕ). unturned queue rows z x.operation) (w.each x.semaphore kn.1)
      ∙ tested (last_signaller x.semaphore bs) x.operation
      (λ g q. earlier_inside x.semaphore g bs below q) kn.0 in
      rw (
        sem,
        cut,
        test,
        walked m (suc k) (set table x.semaphore x.operation) (x ∷ bs) xs d.on
            (λ y u. sub y (Memᴰ.tail u))
            (λ y u. either (Memᴰ.cases_cons u)
            (λ q. subst (λ (z : Signal). z.operation < count p) (sym q) kn.0)
            (λ t. below y t))
            (shows_more semaphores table bs x kn.1 w),
      ) refl

-- ---- the walk over the signals finds the first handover that before does not force
module _ (p : Plan) where
  abbrev forced : (i j : ℕ) → Bool
  forced i j = before p i j

  abbrev apart : (g i : ℕ) → Bool
  apart g i = not (at_or_before p g i)

  abbrev ask_of : (g i : ℕ) → Ask
  ask_of g i = record { first = g; then = i; same_allowed = true }

  asked_is : (g i : ℕ) → met forced (ask_of g i) ≡ at_or_before p g i
  unfolding met at_or_before
  asked_is g i = refl

  -- what the head asks
  head_asks : (o : Option ℕ) (x : Signal) → out_after apart o x.operation ≡ true →
      (a : Ask) × Memᴰ a (handover o x) × (met forced a ≡ false) × (a.then ≡ x.operation)
  unfolding out_after handover
  head_asks none x t = absurd (false≢true t)
  head_asks (some g) x t =
      (ask_of g x.operation, Memᴰ.head refl, asked_is g x.operation ∙ not-true _ t, refl)

  head_met : (o : Option ℕ) (x : Signal) → out_after apart o x.operation ≡ false → (a : Ask) →
      Memᴰ a (handover o x) → met forced a ≡ true
  unfolding out_after handover
  head_met none x f a m = absurd (Memᴰ.not-nil m)
  head_met (some g) x f a m =
      either (Memᴰ.cases_cons m)
      (λ q. ap (λ (z : Ask). met forced z) q ∙ asked_is g x.operation ∙ not-false _ f)
      (λ u. absurd (Memᴰ.not-nil u))

  head_then : (o : Option ℕ) (x : Signal) (a : Ask) → Memᴰ a (handover o x) → a.then ≡ x.operation
  unfolding handover
  head_then none x a m = absurd (Memᴰ.not-nil m)
  head_then (some g) x a m =
      either (Memᴰ.cases_cons m) (λ q. ap (λ (z : Ask). z.then) q) (λ u. absurd (Memᴰ.not-nil u))

  then_among : (bs xs : List Signal) (a : Ask) → Memᴰ a (handovers_from bs xs) →
      (y : Signal) × Memᴰ y xs × (a.then ≡ y.operation)
  unfolding handovers_from
  then_among bs [] a m = absurd (Memᴰ.not-nil m)
  then_among bs (x ∷ xs) a m =
      either (Memᴰ.append_cases (handover (last_signaller x.semaphore bs) x) m)
      (λ t. (x, Memᴰ.head refl, head_then (last_signaller x.semaphore bs) x a t))
      (λ t. let w = then_among (x ∷ bs) xs a t in (w.0, Memᴰ.tail w.1, w.2))

  out_found : (n : ℕ) (bs xs : List Signal) → (first_out apart n bs xs ≡ n) ⊎
      ((a : Ask) × Memᴰ a (handovers_from bs xs) × (met forced a ≡ false) × (a.then ≡ first_out apart n bs xs))
  unfolding first_out handovers_from
  out_found n bs [] = inl refl
  out_found n bs (x ∷ xs) =
      let o = last_signaller x.semaphore bs in
      by_cases (out_after apart o x.operation)
      (λ t. let w = head_asks o x t in
      rw t (inr (w.0, Memᴰ.append_left (handovers_from (x ∷ bs) xs) w.1, w.2, w.3)))
      (λ f. rw f (either (out_found n (x ∷ bs) xs) (λ e. inl e)
      (λ w. inr (w.0, Memᴰ.append_right (handover o x) w.1, w.2, w.3))))

  out_least : (n : ℕ) (bs xs : List Signal) → Pairwise Sooner no_signal xs → (a : Ask) →
      Memᴰ a (handovers_from bs xs) → met forced a ≡ false → first_out apart n bs xs ≤ a.then
  unfolding first_out handovers_from
  out_least n bs [] rise a m e = absurd (Memᴰ.not-nil m)
  out_least n bs (x ∷ xs) rise a m e =
      let o = last_signaller x.semaphore bs in
      by_cases (out_after apart o x.operation)
      (λ t. rw t (either (Memᴰ.append_cases (handover o x) m)
      (λ u. omega (arith, head_then o x a u))
      (λ u. let w = then_among (x ∷ bs) xs a u in
      omega (arith, w.2, sooner_low x w.0 (pairwise_head Sooner no_signal x xs rise w.0 w.1)))))
      (λ f. rw f (either (Memᴰ.append_cases (handover o x) m)
      (λ u. clash (met forced a) (head_met o x f a u) e)
      (λ u. out_least n (x ∷ bs) xs (pairwise_tail Sooner no_signal x xs rise) a u e)))

  lowest_inside : (i : ℕ) → disordered p ≡ some i → i < count p
  lowest_inside i e =
      let w = (disordered_some p i e).0 in omega (arith, w.1.own, handover_inside p w.0 w.1.among)

  -- any number from the plan's length on may stand for none
  lowest_out : (m : ℕ) → count p ≤ m → first_out apart m [] (plan_signals p) ≡ place_or m (disordered p)
  unfolding place_or handovers
  lowest_out m far =
      let r = first_out apart m [] (plan_signals p) in
      let found = out_found m [] (plan_signals p) in
      by_option (disordered p)
      (λ e. rw e (either found (λ q. q) (λ w. clash (met forced w.0) (disordered_none p e w.0 w.1) w.2)))
      (λ i e. let s = disordered_some p i e in
      let a = s.0.0 in
      let u = s.0.1 in
      let low : r ≤ i = omega (
        arith,
        u.own,
        out_least m [] (plan_signals p) (plan_rising p) a u.among u.unforced,
      ) in
      let in_it : i < count p = lowest_inside i e in
      rw e (either found (λ q. absurd (omega (arith, q)))
      (λ w. by_cases (leb i r) (λ t. omega (arith, leb-true i r t))
      (λ f. clash (met forced w.0) (s.1 w.0 w.1 (omega (arith, w.3, leb-false i r f))) w.2))))

unturned_past : (p : Plan) (n semaphores signals : ℕ) (owned : Bool) (queue ssem sop rows : List ℕ) →
    HandoversGiven p n semaphores signals owned queue ssem sop rows → (m : ℕ) → n ≤ m →
    first_unturned queue rows ssem sop owned m semaphores signals ≡ place_or m (disordered p)
unfolding first_unturned turns_found place_or
unturned_past p n semaphores signals owned queue ssem sop rows c m far =
    let all : held signals ssem sop ≡ length (plan_signals p) =
    omega (arith, c.signals_shown.semaphore_room, c.signals_shown.operation_room, c.signals_shown.all) in
    by_cases owned
    (λ t. rw (t, in_turn p (c.only_owners t)) refl)
    (λ f. rw (all, f)
    (walked p n semaphores signals owned queue ssem sop rows c m 0
    (none_yet semaphores) [] (plan_signals p) refl (λ y u. u) (λ y u. absurd (Memᴰ.not-nil u))
    (shows_none semaphores c.few_semaphores)
    ∙ lowest_out p m (omega (arith, c.many))))

pub unturned_found : (p : Plan) (n semaphores signals : ℕ) (owned : Bool) (queue ssem sop rows : List ℕ) →
    HandoversGiven p n semaphores signals owned queue ssem sop rows →
    first_unturned queue rows ssem sop owned n semaphores signals ≡ place_or n (disordered p)
unturned_found p n semaphores signals owned queue ssem sop rows c =
    unturned_past p n semaphores signals owned queue ssem sop rows c n (omega arith)

module _ {p : Plan} {n semaphores signals : ℕ} {owned : Bool} {queue ssem sop rows : List ℕ} where
  pub plans_by : {r : ℕ} → r ≡ first_unturned queue rows ssem sop owned n semaphores signals →
      HandoversGiven p n semaphores signals owned queue ssem sop rows → r ≡ place_or n (disordered p)
  plans_by e c = e ∙ unturned_found _ _ _ _ _ _ _ _ _ c

  -- an operation that is given whatever stands for none is one of the plan
  pub below_by : (r : option.Option ℕ) →
      ((m : ℕ) → unwrap_or r m ≡ first_unturned queue rows ssem sop owned m semaphores signals) →
      HandoversGiven p n semaphores signals owned queue ssem sop rows → IfSome r (λ i. i < n)
  unfolding place_or
  below_by option.None e c = tt
  below_by (option.Some i) e c =
      let here = e n ∙ unturned_found _ _ _ _ _ _ _ _ _ c in
      let further = e (suc n) ∙ unturned_past _ _ _ _ _ _ _ _ _ c (suc n) (omega arith) in
      by_option (disordered p)
      (λ z. absurd (omega (arith, rw z at here, rw z at further)))
      (λ j z. omega (arith, rw z at here, lowest_inside p j z, c.many))

-- what is found: none where only owners are said to signal, else by the walk with places for the last signallers
module _ (queue rows ssem sop : List ℕ) (n semaphores signals : ℕ) (owned : Bool) where
  pub owners_is : owned ≡ true → n ≡ first_unturned queue rows ssem sop owned n semaphores signals
  unfolding first_unturned
  owners_is h = rw h refl

  pub walk_few : {r : ℕ} → owned ≡ false → semaphores ≤ first_semaphores →
      r ≡ turns_found queue rows ssem sop n signals (replicate first_semaphores no_operation) →
      r ≡ first_unturned queue rows ssem sop owned n semaphores signals
  unfolding first_unturned none_yet
  walk_few f few h = rw (f, le-leb semaphores first_semaphores few) h

  pub walk_many : {r : ℕ} → owned ≡ false → first_semaphores < semaphores →
      r ≡ turns_found queue rows ssem sop n signals (replicate most_semaphores no_operation) →
      r ≡ first_unturned queue rows ssem sop owned n semaphores signals
  unfolding first_unturned none_yet
  walk_many f many h = rw (f, lt-leb semaphores first_semaphores many) h
