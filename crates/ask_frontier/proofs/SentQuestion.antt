-- What the question for a frontier says, from what the check says; and all that a caller gets with it. Assumes nothing.
use mathlib.Core.Path.{◌≡◌, sym, ap, ◌∙◌, subst}
use mathlib.Core.Bool.{Bool, false, cond}
use mathlib.Core.List.{List, [], ◌∷◌}
use Prim.Native.Nat.{ℕ, ◌≤◌, ◌<◌}
use lib.ListN.{length}
use Rattle.frontier.specs.Frontiers.{pack}
use Rattle.plan_format.specs.Plan.{count}
use Rattle.plan_format.specs.Refusal.{Refusal, given}
use Rattle.plan_format.specs.RefusalNumbers.{sent_gives}
use Rattle.plan_format.specs.Stored.{plan_in}
use Rattle.plan_format.specs.Meaning.{Refuses}
use Rattle.plan_format.proofs.Judged.{zero_not_given, other_given}
use Rattle.plan_format.proofs.RefusalNumbers.{one_is}
use Rattle.plan_format.proofs.Plans.{sound_in}
use Rattle.plan_order.specs.Check.{Leaves, Outcome, outcome, check_outcome, table_left, list_left, Says, CheckSays}
use Rattle.plan_order.specs.Meaning.{LeftMeans}
use Rattle.plan_order.proofs.CheckMeaning.{check_means}
use Rattle.plan_order.proofs.OutcomeMeaning.{passed_leaves}
use Rattle.plan_order.proofs.Asking.{asked_left}
use Rattle.plan_order.proofs.AsBefore.{judged_as_before}
use Rattle.ask_frontier.specs.declared.Sent.{Sent}
use Rattle.ask_frontier.specs.Sent.{sent, sent_refusal, sent_outcome, told, FrontierSays}
use Rattle.ask_frontier.specs.SentMeaning.{SentMeans, SentNumber, FrontierRight}
use Rattle.ask_frontier.specs.SentWalk.{SentTells}
use Rattle.check_plan.proofs.Passed.{passes}
use Rattle.ask_frontier.proofs.SentMeaning.{sent_means}
use Rattle.ask_frontier.proofs.SentOutcome.{no_operation, no_capacity, none_refused, plan_first, then_asked}
use Rattle.ask_frontier.proofs.SentOutcome.{gives_asked, operation_if, capacity_if, answer_if, sent_only}
use Rattle.ask_frontier.proofs.SentOutcome.{sent_leaves_by, sent_passed}

-- ---- what is said
module _ (bs : List ℕ) (j c : ℕ) (t x l y : List ℕ) (n i : ℕ)
    (s : CheckSays bs (record { number = n; place = i; answer = 0 }) t x l y) where
  -- of a plan that the check refuses
  pub plan_said : (n ≡ 0 → ⊥) →
      FrontierSays bs j c (record { number = n; place = i; frontier = pack [] false }) t x l y
  unfolding CheckSays
  plan_said h =
      let bad : (check_outcome bs (length t) (length l)).refusal.number ≡ 0 → ⊥ = λ z. h (s.tells.number ∙ z) in
      let o = plan_first bs j c (length t) (length l) bad in
      record {
        says = subst (λ (z : Outcome). Says z 0 (plan_in bs) (record { number = n; place = i; answer = 0 }) t x l y)
            (sym o) s;
        frontier_is = sym (ap (λ (b : Bool). cond b (pack [] false) (sent (plan_in bs) j c))
            (ap (λ (z : Outcome). given z.refusal) o
            ∙ other_given (check_outcome bs (length t) (length l)).refusal bad));
      }

  -- of a plan that passes
  pub asked_said : n ≡ 0 → {r : Sent} → SentTells (plan_in bs) j c r → FrontierSays bs j c r t x l y
  unfolding CheckSays outcome
  asked_said z {r} a =
      let passed : (check_outcome bs (length t) (length l)).refusal.number ≡ 0 = sym s.tells.number ∙ z in
      let o = then_asked bs j c (length t) (length l) passed in
      let leaves = passed_leaves bs (length t) (length l) passed in
      record {
        says = subst (λ (z : Outcome). Says z 0 (plan_in bs) (told r) t x l y) (sym o) (record {
          tells = a.tells;
          table_holds = s.table_holds ∙ ap (λ (v : Leaves). table_left v (plan_in bs) t) leaves;
          list_holds = s.list_holds ∙ ap (λ (v : Leaves). list_left v (plan_in bs) l) leaves;
        });
        frontier_is = a.frontier_is
            ∙ sym (ap (λ (z : Outcome). cond (given z.refusal) (pack [] false) (sent (plan_in bs) j c)) o);
      }

-- ---- what a caller gets
module _ (bs : List ℕ) (j c : ℕ) (r : Sent) (t x l y : List ℕ) (s : FrontierSays bs j c r t x l y) where
  abbrev out : Outcome
  out = sent_outcome bs j c (length t) (length l)

  abbrev check : Refusal
  check = (check_outcome bs (length t) (length l)).refusal

  by_number : SentNumber check (plan_in bs) j c r
  by_number =
      let n = s.says.tells.number in
      let i = s.says.tells.place in
      let given_as : (k v : ℕ) → check.number ≡ 0 → Refuses (sent_refusal (plan_in bs) j c) k v →
      (r.number ≡ k) × (r.place ≡ v) =
      λ k v z f. let g = gives_asked bs j c (length t) (length l) k v z f in (n ∙ g.0.0, i ∙ g.0.1) in
      record {
        plan_first = λ h. let o = plan_first bs j c (length t) (length l) h in (
          n ∙ ap (λ (z : Outcome). z.refusal.number) o,
          i ∙ ap (λ (z : Outcome). z.refusal.place) o,
        );
        no_operation = λ z h. given_as 21 j z (no_operation (plan_in bs) j c h);
        no_capacity = λ z h k. given_as 15 0 z (no_capacity (plan_in bs) j c h k);
        answered = λ z h k m. given_as 0 0 z (none_refused (plan_in bs) j c h k m);
        twenty_one = (
          (λ e. operation_if bs j c (length t) (length l) (sym n ∙ e)),
          (λ w. (given_as 21 j w.0 (no_operation (plan_in bs) j c w.1)).0),
        );
        fifteen = (
          (λ e. capacity_if bs j c (length t) (length l) (sym n ∙ e)),
          (λ w. (given_as 15 0 w.0 (no_capacity (plan_in bs) j c w.1 w.2)).0),
        );
        zero = (
          (λ e. answer_if bs j c (length t) (length l) (sym n ∙ e)),
          (λ w. (given_as 0 0 w.0 (none_refused (plan_in bs) j c w.1 w.2 w.3)).0),
        );
        only = one_is (0 ∷ sent_gives) n (sent_only bs j c (length t) (length l));
        refused = λ h. s.frontier_is
            ∙ ap (λ (b : Bool). cond b (pack [] false) (sent (plan_in bs) j c))
            (other_given out.refusal (λ z. h (n ∙ z)));
      }

  passed_by : r.number ≡ 0 → (check.number ≡ 0) × (j < count (plan_in bs)) × (1 ≤ c) × (c ≤ 16)
  passed_by z = by_number.zero.0 z

  frontier_sent : r.number ≡ 0 → r.frontier ≡ sent (plan_in bs) j c
  frontier_sent z =
      s.frontier_is
      ∙ ap (λ (b : Bool). cond b (pack [] false) (sent (plan_in bs) j c))
      (zero_not_given out.refusal (sym s.says.tells.number ∙ z))

  sent_left : LeftMeans (plan_in bs) out.leaves t x l y
  unfolding sent_outcome
  sent_left = asked_left bs (sent_refusal (plan_in bs) j c) 0 (told r) t x l y s.says

  pub frontier_right : FrontierRight bs j c r t x l y
  frontier_right = record {
    says = s;
    check = check_means bs (length t) (length l);
    number = by_number;
    leaves = sent_leaves_by bs j c (length t) (length l);
    passed = sent_passed bs j c (length t) (length l);
    left = sent_left;
    is_sent = frontier_sent;
    means = λ z. let w = passed_by z in
        subst (SentMeans (plan_in bs) j c) (sym (frontier_sent z))
        (sent_means (plan_in bs) (sound_in bs (passes bs (length t) (length l) w.0).good) j c w.2 w.3);
    as_before = judged_as_before bs;
  }
