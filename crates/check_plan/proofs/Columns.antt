-- The counts and columns of a stored plan that are loaded from its bytes. Assumes nothing.
use mathlib.Core.Path.{◌≡◌, sym, ◌∙◌, subst}
use mathlib.Core.Bool.{Bool, false}
use mathlib.Core.List.{List, []}
use Prim.Native.Nat.{ℕ, ◌-◌}
use native.Mathlib.Omega.{arith}
use lib.ListN.{length, take, drop, length-drop}
use lib.Seq.{take_all}
use Rattle.std.specs.Prelude.{Result, Ok, Err}
use Rattle.plan_format.specs.declared.refusal.Reason.{Reason}
use Rattle.plan_format.specs.Form.{form_in, form_by, first_form, is_second}
use Rattle.plan_format.specs.Plan.{Plan}
use Rattle.plan_format.specs.Sound.{rules_refusal}
use Rattle.plan_format.specs.Stored.{scanned, plan_in}
use Rattle.plan_format.specs.Told.{Refused, refused_by}
use Rattle.plan_format.proofs.Judged.{zero_not_given}
use Rattle.plan_format.proofs.Plans.{scanned_limits}
use Rattle.check_columns.specs.Columns.{Columns, columns, OwnerColumn, SourceColumn}
use Rattle.check_columns.proofs.Ownership.{owners_shown}
use Rattle.stored_numbers.specs.declared.Head.{Head}
use Rattle.stored_numbers.specs.declared.Stop.{Stop}
use Rattle.stored_numbers.specs.Reading.{ToldHead, head_told, HeadRead}
use Rattle.stored_numbers.proofs.Fields.{reason_given}
use Rattle.stored_numbers.proofs.ReadingEnds.{read_in}
use Rattle.check_load.specs.Loading.{HeadKnown, ToldLoad, load_told, Loads}
use Rattle.check_load.proofs.Outcomes.{refused_loads, head_refused}
use Rattle.check_load.specs.declared.Loaded.{Loaded}
use Rattle.check_passes.specs.Given.{CheckGiven}
use Rattle.check_plan.specs.Counting.{CountsTold, counts_of, opened_of}
use Rattle.check_plan.specs.Opening.{ReadPlan, lent}

module _ {bs head : List ℕ} {cs : Columns} {r : ToldLoad} (l : Loads bs r head cs) where
  pub loaded_none : ((scanned bs).fault.number ≡ 0 → ⊥) → (r.signals ≡ 0) × (r.marks ≡ 0)
  loaded_none z = l.none (λ e. z (sym l.number ∙ e))

  pub loaded_read : {source : List ℕ} (o : Result (Unit {0}) Refused) →
      ((scanned bs).fault.number ≡ 0 → (rules_refusal (plan_in bs)).number ≡ 0 → SourceColumn (plan_in bs) source) →
      (scanned bs).fault.number ≡ 0 →
      ReadPlan (plan_in bs) (opened_of r o) (lent head cs.queue source cs.signal_semaphore cs.signal_value
      cs.signal_operation cs.mark cs.mark_operation)
  loaded_read o sources z =
      let clean = l.number ∙ z in
      record {
        head_shown = l.head_shown clean;
        queues_shown = (l.columns clean).queues_shown;
        signals_shown = (l.columns clean).signals_shown;
        marks_shown = (l.columns clean).marks_shown;
        sources_shown = sources z;
      }

  module _ (z : r.number ≡ 0) where
    pub loaded_clean : (scanned bs).fault.number ≡ 0
    loaded_clean = sym l.number ∙ z

    pub loaded_given : (owner : List ℕ) → OwnerColumn (plan_in bs) owner →
        CheckGiven (plan_in bs) r.operations r.semaphores r.signals r.marks owner cs
    loaded_given owner o = record {
      limits = scanned_limits bs loaded_clean;
      many = sym (l.sizes.operations ∙ rw (zero_not_given (scanned bs).fault loaded_clean));
      own_semaphores = sym (l.sizes.semaphores ∙ rw (zero_not_given (scanned bs).fault loaded_clean));
      owners_shown = o;
      shown = l.columns z;
    }

-- what is counted of them
pub loaded_counts : {bs head : List ℕ} {cs : Columns} {l : Loaded} → Loads bs (load_told (Ok l)) head cs →
    CountsTold bs (Ok (counts_of (load_told (Ok l))))
loaded_counts l = record { number = l.number; place = l.place; sizes = l.sizes }

pub refused_counts : {bs head : List ℕ} {cs : Columns} {e : Refused} → Loads bs (load_told (Err e)) head cs →
    CountsTold bs (Err e)
refused_counts l = record { number = l.number; place = l.place; sizes = l.sizes }

-- a head that is read
pub head_known : {bs nums : List ℕ} {h : Head} → h.wide ≡ is_second bs →
    HeadRead (form_in bs) bs (head_told (Ok h)) nums → HeadKnown bs h nums
head_known {bs} {nums} {h} e read =
    record { form = e; read = subst (λ (b : Bool). HeadRead (form_by b) bs (head_told (Ok h)) nums) (sym e) read }

pub in_first : {bs nums : List ℕ} {h : ToldHead} → is_second bs ≡ false → HeadRead first_form bs h nums →
    HeadRead (form_in bs) bs h nums
unfolding form_by
in_first {bs} {nums} {h} e read = subst (λ (b : Bool). HeadRead (form_by b) bs h nums) (sym e) read

-- columns with nothing in them
abbrev pub no_columns : Columns
no_columns = columns [] [] [] [] [] [] [] []

-- a head that is refused: nothing is loaded, whatever the columns are
pub head_loads : {bs nums : List ℕ} (s : Stop Reason) → HeadRead (form_in bs) bs (head_told (Err s)) nums →
    (cs : Columns) → Loads bs (load_told (Err (refused_by s.reason s.at))) nums cs
head_loads {bs} s head cs =
    refused_loads (head_refused head (read_in bs) (reason_given s.reason)) (reason_given s.reason)

-- the owners in the part of the head from a place on
pub owners_part : (p : Plan) (head : List ℕ) (first many : ℕ) → p.owners ≡ take many (drop first head) →
    OwnerColumn p (take (length head - first) (drop first head))
owners_part p head first many are =
    let all = take_all (length head - first) (drop first head) (omega (arith, length-drop first head)) in
    subst (λ (l : List ℕ). OwnerColumn p l) (sym all) (owners_shown p (drop first head) many are)
