-- The first form is read and written as it was, and the second form is written only where the first has no room.
-- Assumes nothing.
use mathlib.Core.Path.{◌≡◌, sym, ap, ◌∙◌}
use mathlib.Core.List.{List, []}
use Prim.Native.Nat.{ℕ}
use native.Mathlib.Omega.{arith}
use lib.Dec.{leb}
use lib.ListN.{length}
use borrow.Author.Tests.{leb-true, leb-false}
use Rattle.base_lists.proofs.Tests.{by_cases}
use Rattle.plan_format.specs.Sizes.{first_semaphores}
use Rattle.plan_format.specs.Refusal.{none_given}
use Rattle.plan_format.specs.Grammar.{numbers, Scan, scan}
use Rattle.plan_format.specs.Form.{Form, first_form, second_form, form_with, scanned_by, spelled_by}
use Rattle.plan_format.specs.Plan.{Plan, plan_of}
use Rattle.plan_format.specs.Limits.{InBytes, numbers_of, sections_bytes}
use Rattle.plan_format.specs.Stored.{scanned, listed, plan_in, spelled, plan_refusal}
use Rattle.plan_format.specs.AsBefore.{ReadsAsBefore, WritesAsBefore, AsBefore}
use Rattle.plan_format.proofs.Parses.{Exact}
use Rattle.plan_format.proofs.ParsedForms.{numbers_read, numbers_whole}
use Rattle.plan_format.proofs.Forms.{Admits, StoredForm, first_stored, second_stored, first_told}
use Rattle.plan_format.proofs.EveryPlan.{plan_parses}
use Rattle.plan_format.proofs.OnlyPlans.{parsed_plan}
use Rattle.plan_format.proofs.Plans.{listed_within}
use Rattle.plan_format.proofs.Taking.{takes_plans, owners_counted}

read_as_before : (bs : List ℕ) → ReadsAsBefore bs
unfolding scanned plan_in plan_refusal
read_as_before bs h = let e = first_told bs h in record { read = rw e; plan = rw e; refusal = rw e }

-- a list of a plan is spelled in the form that allows its semaphores
spelled_in : (F : Form) → StoredForm F → (p : Plan) → Admits F (length p.owners) →
    spelled (numbers_of p) ≡ spelled_by F (numbers_of p)
unfolding spelled
spelled_in F S p a =
    ap (λ (n : ℕ). spelled_by (form_with n) (numbers_of p)) (owners_counted p)
    ∙ ap (λ (G : Form). spelled_by G (numbers_of p)) (S.own (length p.owners) a)

written_as_before : (xs : List ℕ) → WritesAsBefore xs
written_as_before xs e =
    let (ds, parsed) = numbers_read first_form xs e in
    let (p, w, a, is) =
    parsed_plan Exact InBytes (λ _ _ _ s. s.fits) first_form first_stored.proper xs ds parsed in
    record {
      taken = ap listed is ∙ (takes_plans.every p w).taken
          ∙ ap (λ (z : List ℕ). scan [] (length z) z none_given) (sym is) ∙ sym (numbers_whole first_form xs ds parsed);
      written = ap spelled is ∙ spelled_in first_form first_stored p a ∙
          ap (λ (z : List ℕ). spelled_by first_form z) (sym is);
    }

pub as_before : AsBefore
as_before = record { read = read_as_before; written = written_as_before }

-- a list that is taken, though not by the first form, is spelled in the second
pub written_second : (xs : List ℕ) → (listed xs).fault.number ≡ 0 →
    ((scanned_by numbers first_form xs).fault.number ≡ 0 → ⊥) → spelled xs ≡ spelled_by second_form xs
unfolding scan none_given first_form second_form
written_second xs e h =
    let p = plan_of xs in
    let s = length p.owners in
    let (w, is) = listed_within xs e in
    by_cases (leb s first_semaphores)
    (λ t. absurd (h (ap (λ (z : List ℕ). (scanned_by numbers first_form z).fault.number) is
    ∙ ap (λ (z : Scan). z.fault.number)
    (numbers_whole first_form (numbers_of p) (sections_bytes 1 p)
    (plan_parses first_form first_stored.proper p (record {
      least = omega arith;
      most = leb-true s first_semaphores t;
    }) w)))))
    (λ f. ap spelled is
    ∙ spelled_in second_form second_stored p (record {
      least = leb-false s first_semaphores f;
      most = w.few_semaphores;
    })
    ∙ ap (λ (z : List ℕ). spelled_by second_form z) (sym is))
