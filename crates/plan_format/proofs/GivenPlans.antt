-- What reader and writer promise of given input, from what is so of every plan. Assumes nothing.
use mathlib.Core.Path.{◌≡◌, sym, ap, ◌∙◌}
use mathlib.Core.Bool.{true}
use mathlib.Core.List.{List}
use Prim.Native.Nat.{ℕ}
use Rattle.plan_format.specs.Refusal.{none_given}
use Rattle.plan_format.specs.Grammar.{Scan, scan}
use Rattle.plan_format.specs.Plan.{plan_of}
use Rattle.plan_format.specs.Stored.{all_bytes, scanned, listed, plan_in, spelled}
use Rattle.plan_format.specs.Promise.{OneString, ReadsPlans, WritesPlans}
use Rattle.plan_format.proofs.Taking.{takes_plans}
use Rattle.plan_format.proofs.RoundTrip.{one_string, spelled_bytes, scanned_spelled}
use Rattle.plan_format.proofs.Sizes.{scanned_sizes, listed_sizes}

pub reads_plans : (bs : List ℕ) → all_bytes bs ≡ true → ReadsPlans bs
unfolding OneString scan none_given
reads_plans bs b = record {
  exactly = (
    λ e. (plan_in bs, ((takes_plans.read bs b).0 e).0, ((takes_plans.read bs b).0 e).1),
    λ h. ap (λ (z : List ℕ). (scanned z).fault.number) h.2
        ∙ ap (λ (s : Scan). s.fault.number) (takes_plans.every h.0 h.1).read,
  );
  plan = λ p w is. ap plan_in is ∙ (takes_plans.every p w).plan_read;
  numbers = λ p w is. ap (λ (z : List ℕ). (scanned z).got) is ∙ ap (λ (s : Scan). s.got) (takes_plans.every p w).read;
  one_string = λ e cs c f same. one_string cs bs c b f e same;
  few_bytes = λ e. (scanned_sizes bs e).0;
  few_numbers = λ e. (scanned_sizes bs e).1;
}

pub writes_plans : (xs : List ℕ) → WritesPlans xs
unfolding OneString scan none_given
writes_plans xs = record {
  exactly = (
    λ e. (plan_of xs, ((takes_plans.taken xs).0 e).0, ((takes_plans.taken xs).0 e).1),
    λ h. ap (λ (z : List ℕ). (listed z).fault.number) h.2
        ∙ ap (λ (s : Scan). s.fault.number) (takes_plans.every h.0 h.1).taken,
  );
  plan = λ p w is. ap plan_of is ∙ (takes_plans.every p w).plan_taken;
  bytes = λ p w is. ap spelled is ∙ (takes_plans.every p w).written;
  one_string = λ e cs c f same.
      let back = scanned_spelled xs e in
      one_string cs (spelled xs) c (spelled_bytes xs e) f (ap (λ (s : Scan). s.fault.number) back)
      (same ∙ sym (ap (λ (s : Scan). s.got) back));
  few_numbers = λ e. (listed_sizes xs e).0;
  few_bytes = λ e. (listed_sizes xs e).1;
}
