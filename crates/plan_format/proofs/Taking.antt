-- Reader and writer take every plan within the limits, in the form for its semaphores, and nothing else. Assumes
-- nothing.
use mathlib.Core.Path.{◌≡◌, refl, sym, ap, ◌∙◌, subst}
use mathlib.Core.Bool.{true}
use mathlib.Core.List.{List, [], ◌∷◌}
use Prim.Native.Nat.{ℕ, ◌+◌}
use native.Mathlib.Omega.{arith}
use lib.ListN.{length}
use Rattle.plan_format.specs.Refusal.{none_given}
use Rattle.plan_format.specs.Grammar.{bytes, Scan, scan}
use Rattle.plan_format.specs.Form.{Form, list_form, form_in, form_with, queue_count, semaphore_count}
use Rattle.plan_format.specs.Form.{plan_grammar, scanned_by, spelled_by}
use Rattle.plan_format.specs.Plan.{Plan, plan_of}
use Rattle.plan_format.specs.Limits.{InBytes, Within, counted_numbers, numbers_of, sections_bytes, stored_by}
use Rattle.plan_format.specs.Limits.{form_of, bytes_of}
use Rattle.plan_format.specs.Stored.{all_bytes, scanned, listed, plan_in, spelled}
use Rattle.plan_format.specs.Promise.{StoredPlan, TakesPlans}
use Rattle.plan_format.proofs.Bytes.{bytes_append}
use Rattle.plan_format.proofs.Seams.{at_seam}
use Rattle.plan_format.proofs.Parses.{Exact, Parses}
use Rattle.plan_format.proofs.Spellings.{parsed_bytes}
use Rattle.plan_format.proofs.ParsedForms.{Led, bytes_whole, bytes_read, numbers_whole, spelled_parsed}
use Rattle.plan_format.proofs.PlanNumbers.{ones, plan_back}
use Rattle.plan_format.proofs.Forms.{Admits, StoredForm, list_proper, list_admits, led_as, by_semaphores}
use Rattle.plan_format.proofs.Forms.{by_first_byte}
use Rattle.plan_format.proofs.EveryPlan.{plan_parses}
use Rattle.plan_format.proofs.OnlyPlans.{parsed_plan}
use Rattle.plan_format.proofs.Plans.{listed_within}

-- the count of the semaphores among the numbers of a plan
pub owners_counted : (p : Plan) → semaphore_count (numbers_of p) ≡ length p.owners
unfolding semaphore_count queue_count numbers_of counted_numbers
owners_counted p =
    rw (ones p.axes)
    (at_seam _ (length p.axes ∷ p.axes) _ (length p.owners) (1 + length p.axes) refl (omega arith))

-- ---- a plan that is stored in a form
module _ (F : Form) (S : StoredForm F) (p : Plan) (w : Within p) (a : Admits F (length p.owners)) where
  parsed : Parses Exact (plan_grammar F) [] (numbers_of p) (sections_bytes F.semaphore_width p)
  parsed = plan_parses F S.proper p a w

  bytes_are : bytes_of p ≡ stored_by F p
  unfolding bytes_of form_of
  bytes_are = ap (λ (G : Form). stored_by G p) (S.own (length p.owners) a)

  read_plan : scanned (bytes_of p) ≡ scan [] (length (bytes_of p)) (numbers_of p) none_given
  unfolding scanned stored_by
  read_plan =
      ap scanned bytes_are
      ∙ ap (λ (G : Form). scanned_by bytes G (stored_by F p)) (S.told p w)
      ∙ bytes_whole F (numbers_of p) (sections_bytes F.semaphore_width p) parsed
      ∙ ap (λ (z : List ℕ). scan [] (length z) (numbers_of p) none_given) (sym bytes_are)

  taken_plan : listed (numbers_of p) ≡ scan [] (length (numbers_of p)) (numbers_of p) none_given
  unfolding listed
  taken_plan =
      numbers_whole list_form (numbers_of p) (sections_bytes list_form.semaphore_width p)
      (plan_parses list_form list_proper p (list_admits (length p.owners) w.few_semaphores) w)

  written_plan : spelled (numbers_of p) ≡ bytes_of p
  unfolding spelled stored_by
  written_plan =
      ap (λ (n : ℕ). spelled_by (form_with n) (numbers_of p)) (owners_counted p)
      ∙ ap (λ (G : Form). spelled_by G (numbers_of p)) (S.own (length p.owners) a)
      ∙ spelled_parsed F (numbers_of p) (sections_bytes F.semaphore_width p) parsed
      ∙ sym bytes_are

  stored_in : StoredPlan p
  unfolding plan_in scan stored_by
  stored_in = record {
    are_bytes = ap all_bytes bytes_are
        ∙ bytes_append F.lead (sections_bytes F.semaphore_width p) S.lead_bytes
        (parsed_bytes (plan_grammar F) [] (numbers_of p) (sections_bytes F.semaphore_width p) parsed);
    read = read_plan;
    plan_read = ap (λ (s : Scan). plan_of s.got) read_plan ∙ plan_back p;
    taken = taken_plan;
    plan_taken = plan_back p;
    written = written_plan;
  }

stored_plan : (p : Plan) → Within p → StoredPlan p
stored_plan p w = by_semaphores (length p.owners) w.few_semaphores (λ F S a. stored_in F S p w a)

-- ---- bytes of a form that are read are those of the plan that they tell
module _ (bs : List ℕ) (b : all_bytes bs ≡ true) (e : (scanned bs).fault.number ≡ 0) where
  of_form : (F : Form) → StoredForm F → form_in bs ≡ F → Within (plan_in bs) × (bs ≡ bytes_of (plan_in bs))
  unfolding scanned plan_in stored_by
  of_form F S is =
      let clean : (scanned_by bytes F bs).fault.number ≡ 0 =
      ap (λ (G : Form). (scanned_by bytes G bs).fault.number) (sym is) ∙ e in
      let (ds, parsed, shown) = bytes_read F bs b (subst (λ (G : Form). Led G bs) is (led_as bs)) clean in
      let got = (scanned_by bytes F bs).got in
      let (p, w, a, numbers) = parsed_plan Exact InBytes (λ _ _ _ s. s.fits) F S.proper got ds parsed in
      let told : plan_of (scanned_by bytes (form_in bs) bs).got ≡ p =
      ap (λ (G : Form). plan_of (scanned_by bytes G bs).got) is ∙ ap plan_of numbers ∙ plan_back p in
      let same : bs ≡ bytes_of p =
      shown ∙ sym (spelled_parsed F got ds parsed) ∙ ap (λ (z : List ℕ). spelled_by F z) numbers
      ∙ spelled_parsed F (numbers_of p) (sections_bytes F.semaphore_width p) (plan_parses F S.proper p a w)
      ∙ sym (bytes_are F S p w a) in
      subst (λ (z : Plan). Within z × (bs ≡ bytes_of z)) (sym told) (w, same)

  of_plan : Within (plan_in bs) × (bs ≡ bytes_of (plan_in bs))
  of_plan = by_first_byte bs of_form

pub takes_plans : TakesPlans
unfolding scan none_given
takes_plans = record {
  every = stored_plan;
  read = λ bs b. (
    of_plan bs b,
    λ h. ap (λ z. (scanned z).fault.number) h.1
        ∙ ap (λ (s : Scan). s.fault.number) (stored_plan (plan_in bs) h.0).read,
  );
  taken = λ xs. (
    listed_within xs,
    λ h. ap (λ z. (listed z).fault.number) h.1
        ∙ ap (λ (s : Scan). s.fault.number) (stored_plan (plan_of xs) h.0).taken,
  );
}
