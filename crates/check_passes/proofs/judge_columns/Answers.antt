-- `judge_columns` meets its contract: refusals 7 and 8, or what the order gives. Assumes nothing.
use mathlib.Core.Path.{◌≡◌, refl, ◌∙◌}
use borrow.Author.Rules.{rules}
use Rattle.std.specs.Prelude.{Err}
use Rattle.check_signals.specs.Owners.{by_owners}
use Rattle.check_signals.proofs.Told.{refused_alike}
use Rattle.check_passes.proofs.Results.{reason_given}
use Rattle.check_passes.proofs.Untouched.{not_ruled}
use Rattle.check_passes.proofs.AnyColumns.{answers_first, first_then, first_only}
use Rattle.check_passes.proofs.Columns.{rules_given, owned_told, order_given}
use Rattle.check_passes.proofs.judge_columns.Goals as goal

pub returns-in_err-owned : goal.returns-in_err-owned
returns-in_err-owned c =
    let same : c.from_residual.result ≡ Err c.in_err-owned.field-0.0 = search rules in
    let given_is = reason_given c.in_err-owned.field-0.0.reason in
    rw same (record {
      answers = answers_first (first_only _ c.in_err-owned.ensures.told given_is) given_is;
      sources = c.in_err-owned.ensures.sources;
      of_plans = λ p given.
          let told = (c.in_err-owned.ensures.of_plans p (rules_given given)).told in (
            not_ruled p _ _ _ (refused_alike told given_is) given_is,
            λ none.
                absurd (given_is (told.number ∙ none)),
          );
    })

pub returns : goal.returns
returns c =
    let owned = owned_told {b = by_owners _ _ _ _ _ _} c.in_ok-owned.ensures.told in record {
      answers = rw owned at (first_then _ c.in_ok-owned.ensures.told refl c.check_order.ensures.answers);
      sources = c.in_ok-owned.ensures.sources;
      of_plans = λ p given.
          let held = c.in_ok-owned.ensures.of_plans p (rules_given given) in (
            c.check_order.ensures.of_plans p (order_given given held),
            λ _.
                held.sources_shown refl,
          );
    }
