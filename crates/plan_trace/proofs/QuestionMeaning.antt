-- The question on a trace: the check's refusals, then 9, then 22, and what each leaves. Assumes nothing.
use mathlib.Core.Path.{◌≡◌, refl, sym, ap, ◌∙◌}
use mathlib.Core.Bool.{true, false}
use mathlib.Core.Logic.{◌⊎◌, inl, inr, ◌↔◌}
use mathlib.Core.List.{List, [], ◌∷◌, map}
use Prim.Native.Nat.{ℕ, ◌≤◌, ◌<◌}
use native.Mathlib.Omega.{arith}
use lib.Dec.{ltb, leb, eqb}
use lib.ListN.{length}
use borrow.Author.Tests.{ltb-true, ltb-false, lt-ltb, le-ltb, leb-true, leb-false, le-leb, eqb-true, eqb-false, eq-eqb}
use Rattle.base_lists.specs.Lists.{member}
use Rattle.base_lists.proofs.Tests.{by_cases, clash, is_false, and_left, and_right, and_both, either}
use Rattle.plan_format.specs.Sizes.{step_bytes, state_size}
use Rattle.plan_format.specs.Grammar.{value, bytes, scan, refused, field_number, read_field, read_by, ended}
use Rattle.plan_format.specs.Form.{first_form, form_by, is_second, plan_grammar, scanned_by}
use Rattle.plan_format.specs.Plan.{plan_of}
use Rattle.plan_format.specs.Refusal.{Refusal, refusal, none_given, given, or_refusal}
use Rattle.plan_format.specs.RefusalNumbers.{NoneOr, trace_numbers}
use Rattle.plan_format.specs.Stored.{scanned, plan_in, plan_refusal, room_for}
use Rattle.plan_format.specs.Meaning.{Refuses}
use Rattle.plan_format.proofs.RefusalNumbers.{one_is}
use Rattle.plan_order.specs.Check.{untouched, rows_and_run, Outcome, outcome, or_then, check_outcome}
use Rattle.plan_order.specs.Meaning.{Gives}
use Rattle.plan_order.specs.Promise.{Safe, unrefused}
use Rattle.plan_order.proofs.CheckMeaning.{check_means}
use Rattle.plan_order.proofs.Asking as asking
use Rattle.plan_trace.specs.Trace.{step_count, step_place, trace_formed, trace_refusal}
use Rattle.plan_trace.specs.Question.{own_refusal, trace_outcome}
use Rattle.plan_trace.specs.Meaning.{IllFormed, WellFormed, OutcomeMeans}

-- 9 with the size of the state comes before 22
room_before_form : map (own_refusal []) (1039 ∷ 1040 ∷ []) ≡ refusal 9 1040 ∷ refusal 22 0 ∷ []
unfolding own_refusal or_refusal given room_for trace_refusal trace_formed step_count value refusal none_given
room_before_form = refl

-- no bytes of a plan and none of a trace: the plan is refused, and nothing is touched
plan_before_question : trace_outcome [] [] 0 0 0 ≡ outcome (refusal 1 0) untouched
unfolding trace_outcome own_refusal check_outcome or_then outcome plan_refusal or_refusal given none_given refusal
    plan_in
    plan_of scanned scanned_by bytes scan refused read_by read_field field_number ended form_by is_second first_form
    plan_grammar room_for
    trace_refusal trace_formed step_count value
plan_before_question = refl

-- ---- the form of a trace
module _ (ts : List ℕ) where
  pub formed_by : WellFormed ts → trace_formed ts ≡ true
  unfolding trace_formed
  formed_by w =
      and_both (leb step_bytes (length ts)) (eqb (length ts) (step_place (step_count ts)))
      (le-leb step_bytes (length ts) w.0)
      (eq-eqb (length ts) (step_place (step_count ts)) w.1)

  pub formed_gives : trace_formed ts ≡ true → WellFormed ts
  unfolding trace_formed
  formed_gives t = (
    leb-true step_bytes (length ts) (and_left (leb step_bytes (length ts))
        (eqb (length ts) (step_place (step_count ts))) t),
    eqb-true (length ts) (step_place (step_count ts))
        (and_right (leb step_bytes (length ts)) (eqb (length ts) (step_place (step_count ts))) t),
  )

  pub ill_by : IllFormed ts → trace_formed ts ≡ false
  ill_by w =
      is_false (trace_formed ts) (λ t. let g = formed_gives t in either w (λ l. omega (arith, g.0)) (λ h. h g.1))

  formed_or_ill : WellFormed ts ⊎ IllFormed ts
  formed_or_ill =
      by_cases (leb step_bytes (length ts))
      (λ t. by_cases (eqb (length ts) (step_place (step_count ts)))
      (λ e. inl (leb-true step_bytes (length ts) t, eqb-true (length ts) (step_place (step_count ts)) e))
      (λ e. inr (inr (eqb-false (length ts) (step_place (step_count ts)) e))))
      (λ f. inr (inl (leb-false step_bytes (length ts) f)))

  pub not_formed : trace_formed ts ≡ false → IllFormed ts
  not_formed f = either formed_or_ill (λ w. clash (trace_formed ts) (formed_by w) f) (λ w. w)

-- ---- the question's own refusals
module _ (ts : List ℕ) (s : ℕ) where
  pub short_is : s < state_size → Refuses (own_refusal ts s) 9 state_size
  unfolding own_refusal or_refusal room_for refusal given
  short_is h = rw (lt-ltb s state_size h) (refl, refl)

  pub ill_is : state_size ≤ s → IllFormed ts → Refuses (own_refusal ts s) 22 0
  unfolding own_refusal or_refusal room_for trace_refusal refusal given none_given
  ill_is h w = rw (le-ltb s state_size h, ill_by ts w) (refl, refl)

  pub none_is : state_size ≤ s → WellFormed ts → Refuses (own_refusal ts s) 0 0
  unfolding own_refusal or_refusal room_for trace_refusal refusal given none_given
  none_is h w = rw (le-ltb s state_size h, formed_by ts w) (refl, refl)

  data OwnCase (f : Refusal) : Type 0 where
    short_case : Refuses f 9 state_size → s < state_size → OwnCase f
    ill_case : Refuses f 22 0 → state_size ≤ s → IllFormed ts → OwnCase f
    answer_case : Refuses f 0 0 → state_size ≤ s → WellFormed ts → OwnCase f

  own_case : OwnCase (own_refusal ts s)
  own_case =
      by_cases (ltb s state_size) (λ u. let h = ltb-true s state_size u in short_case (short_is h) h)
      (λ u. let h = ltb-false s state_size u in
      either (formed_or_ill ts) (λ w. answer_case (none_is h w) h w) (λ w. ill_case (ill_is h w) h w))

  own_number : (f : Refusal) → OwnCase f → NoneOr trace_numbers f.number
  unfolding member
  own_number f (short_case e h) = rw e.0
  own_number f (ill_case e h w) = rw e.0
  own_number f (answer_case e h w) = rw e.0

  short_if : (f : Refusal) → OwnCase f → (i : ℕ) → Refuses f 9 i → (s < state_size) × (i ≡ state_size)
  short_if f (short_case e h) i r = (h, sym r.1 ∙ e.1)
  short_if f (ill_case e h w) i r = absurd (omega (arith, e.0, r.0))
  short_if f (answer_case e h w) i r = absurd (omega (arith, e.0, r.0))

  ill_if : (f : Refusal) → OwnCase f → f.number ≡ 22 → (state_size ≤ s) × IllFormed ts
  ill_if f (short_case e h) z = absurd (omega (arith, e.0))
  ill_if f (ill_case e h w) z = (h, w)
  ill_if f (answer_case e h w) z = absurd (omega (arith, e.0))

  answer_if : (f : Refusal) → OwnCase f → f.number ≡ 0 → (state_size ≤ s) × WellFormed ts
  answer_if f (short_case e h) z = absurd (omega (arith, e.0))
  answer_if f (ill_case e h w) z = absurd (omega (arith, e.0))
  answer_if f (answer_case e h w) z = (h, w)

  pub own_none : (own_refusal ts s).number ≡ 0 → (state_size ≤ s) × WellFormed ts
  own_none z = answer_if (own_refusal ts s) own_case z

module _ (bs ts : List ℕ) (t l s : ℕ) where
  abbrev own : Refusal
  own = own_refusal ts s

  abbrev checked : Outcome
  checked = check_outcome bs t l

  abbrev here : Outcome
  here = trace_outcome bs ts t l s

  pub plan_first : (checked.refusal.number ≡ 0 → ⊥) → here ≡ checked
  unfolding trace_outcome
  plan_first h = asking.plan_first bs t l own h

  pub then_asked : checked.refusal.number ≡ 0 → here ≡ outcome own rows_and_run
  unfolding trace_outcome
  then_asked z = asking.then_asked bs t l own z

  pub gives_asked : (n i : ℕ) → checked.refusal.number ≡ 0 → Refuses own n i → Gives here n i rows_and_run
  unfolding trace_outcome
  gives_asked n i z r = asking.gives_asked bs t l own n i z r

  pub leaves_are : here.leaves ≡ checked.leaves
  unfolding trace_outcome
  leaves_are = asking.asked_leaves bs t l own

  passed_if : (here.leaves ≡ rows_and_run) ↔ (checked.refusal.number ≡ 0)
  unfolding trace_outcome
  passed_if = asking.asked_passed bs t l own

  nine_if : (i : ℕ) → Gives here 9 i rows_and_run → (checked.refusal.number ≡ 0) × (s < state_size) × (i ≡ state_size)
  unfolding outcome
  nine_if i g =
      let z = passed_if.0 g.1 in
      let same = then_asked z in
      let w = short_if ts s own (own_case ts s) i (
        sym (ap (λ (o : Outcome). o.refusal.number) same) ∙ g.0.0,
        sym (ap (λ (o : Outcome). o.refusal.place) same) ∙ g.0.1,
      ) in
      (z, w.0, w.1)

  pub twenty_two_if : here.refusal.number ≡ 22 → (checked.refusal.number ≡ 0) × (state_size ≤ s) × IllFormed ts
  unfolding trace_outcome member
  twenty_two_if e =
      let w = asking.asked_own bs t l own 22 refl e in let v = ill_if ts s own (own_case ts s) w.1 in
      (w.0, v.0, v.1)

  pub zero_if : here.refusal.number ≡ 0 → (checked.refusal.number ≡ 0) × (state_size ≤ s) × WellFormed ts
  unfolding trace_outcome member
  zero_if e =
      let w = asking.asked_own bs t l own 0 refl e in let v = answer_if ts s own (own_case ts s) w.1 in
      (w.0, v.0, v.1)

  own_if : here.leaves ≡ rows_and_run → NoneOr trace_numbers here.refusal.number
  unfolding outcome
  own_if e =
      one_is (0 ∷ trace_numbers) (ap (λ (o : Outcome). o.refusal.number) (then_asked (passed_if.0 e)))
      (own_number ts s own (own_case ts s))

  pub outcome_means : OutcomeMeans bs ts t l s (trace_outcome bs ts t l s)
  unfolding trace_outcome
  outcome_means = record {
    check = check_means bs t l;
    plan_first = plan_first;
    short = λ z h. gives_asked 9 state_size z (short_is ts s h);
    disagrees = λ z h w. gives_asked 22 0 z (ill_is ts s h w);
    answered = λ z h w. gives_asked 0 0 z (none_is ts s h w);
    nine = λ i. (nine_if i, (λ w. rw w.2 (gives_asked 9 state_size w.0 (short_is ts s w.1))));
    twenty_two = (twenty_two_if, (λ w. (gives_asked 22 0 w.0 (ill_is ts s w.1 w.2)).0.0));
    zero = (zero_if, (λ w. (gives_asked 0 0 w.0 (none_is ts s w.1 w.2)).0.0));
    only = asking.asked_number bs t l own trace_numbers (own_number ts s own (own_case ts s));
    own = own_if;
    untouched = (
      (λ e. (check_means bs t l).leaves.untouched.0 (sym leaves_are ∙ e)),
      (λ c. leaves_are ∙ (check_means bs t l).leaves.untouched.1 c),
    );
    zeros = (
      (λ e. (check_means bs t l).leaves.zeros.0 (sym leaves_are ∙ e)),
      (λ c. leaves_are ∙ (check_means bs t l).leaves.zeros.1 c),
    );
    rows_and_run = passed_if;
  }

  -- rows and run are left exactly where the plan passes
  pub trace_passed : ((trace_outcome bs ts t l s).leaves ≡ rows_and_run) ↔
      ((unrefused bs t l ≡ true) × Safe (plan_in bs))
  unfolding trace_outcome
  trace_passed = asking.asked_safe bs t l own
