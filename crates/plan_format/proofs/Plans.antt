-- Plans read from bytes or given as numbers are within the limits, and a plan that is not refused is sound. Assumes
-- nothing.
use mathlib.Core.Path.{◌≡◌, sym, ap, ◌∙◌, subst}
use mathlib.Core.List.{List}
use Prim.Native.Nat.{ℕ}
use Rattle.plan_format.specs.Grammar.{bytes, numbers}
use Rattle.plan_format.specs.Form.{Form, form_in, list_form, scanned_by}
use Rattle.plan_format.specs.Plan.{Plan, count, queues, plan_of}
use Rattle.plan_format.specs.Limits.{InBytes, Unbounded, Within, Limits, numbers_of}
use Rattle.plan_format.specs.Sound.{Sound, rules_refusal}
use Rattle.plan_format.specs.Stored.{scanned, listed, plan_in, plan_refusal}
use Rattle.plan_format.proofs.Judged.{or_else_none}
use Rattle.plan_format.proofs.Parses.{Exact, Loose}
use Rattle.plan_format.proofs.Sources.{loose_bytes}
use Rattle.plan_format.proofs.Whole.{whole_of}
use Rattle.plan_format.proofs.ParsedForms.{numbers_read}
use Rattle.plan_format.proofs.Sections.{Sections, sections}
use Rattle.plan_format.proofs.PlanNumbers.{plan_back}
use Rattle.plan_format.proofs.Forms.{Proper, list_proper, proper_in}
use Rattle.plan_format.proofs.OnlyPlans.{parsed_plan}
use Rattle.plan_format.proofs.Positions.{in_range, limits_above_zero}

module _ (F : Form) (bs : List ℕ) (e : (scanned_by bytes F bs).fault.number ≡ 0) where
  pub bytes_sections : Sections F (scanned_by bytes F bs).got
  unfolding loose_bytes
  bytes_sections = let w = whole_of bytes Loose loose_bytes F bs tt e in
      sections Loose F (scanned_by bytes F bs).got w.ds w.parsed

  -- also where an element is no byte
  pub bytes_limits : Proper F → Limits (plan_of (scanned_by bytes F bs).got)
  unfolding loose_bytes
  bytes_limits proper =
      let w = whole_of bytes Loose loose_bytes F bs tt e in
      let (p, l, a, is) = parsed_plan Loose Unbounded (λ _ _ _ _. tt) F proper (scanned_by bytes F bs).got w.ds
      w.parsed in
      subst Limits (sym (ap (λ z. plan_of z) is ∙ plan_back p)) l

module _ (F : Form) (xs : List ℕ) (e : (scanned_by numbers F xs).fault.number ≡ 0) where
  pub numbers_sections : Sections F xs
  numbers_sections = let (ds, p) = numbers_read F xs e in sections Exact F xs ds p

  -- numbers that are taken are those of the plan that they tell
  pub numbers_within : Proper F → Within (plan_of xs) × (xs ≡ numbers_of (plan_of xs))
  numbers_within proper =
      let (ds, parsed) = numbers_read F xs e in
      let (p, w, a, is) = parsed_plan Exact InBytes (λ _ _ _ s. s.fits) F proper xs ds parsed in
      let told : p ≡ plan_of xs = sym (ap (λ z. plan_of z) is ∙ plan_back p) in
      (subst Within told w, is ∙ ap numbers_of told)

-- ---- the form that the first byte tells, and the form of a list
pub scanned_sections : (bs : List ℕ) → (scanned bs).fault.number ≡ 0 → Sections (form_in bs) (scanned bs).got
unfolding scanned
scanned_sections bs e = bytes_sections (form_in bs) bs e

pub scanned_limits : (bs : List ℕ) → (scanned bs).fault.number ≡ 0 → Limits (plan_in bs)
unfolding scanned plan_in
scanned_limits bs e = bytes_limits (form_in bs) bs e (proper_in bs)

pub listed_within : (xs : List ℕ) → (listed xs).fault.number ≡ 0 → Within (plan_of xs) × (xs ≡ numbers_of (plan_of xs))
unfolding listed
listed_within xs e = numbers_within list_form xs e list_proper

-- ---- soundness: what refusals 7 and 8 leave of a plan within the limits
pub limits_sound : (p : Plan) → Limits p → (rules_refusal p).number ≡ 0 → Sound p
unfolding queues count
limits_sound p l e =
    record {
      few_queues = l.few_queues;
      few_operations = l.few_operations;
      axes_distinct =
          l.axes_distinct;
      in_range = in_range l;
      waits_above_zero = limits_above_zero l;
      rules = e;
    }

pub sound_in : (bs : List ℕ) → (plan_refusal bs).number ≡ 0 → Sound (plan_in bs)
unfolding plan_refusal
sound_in bs e =
    let (a, b) = or_else_none (scanned bs).fault (rules_refusal (plan_in bs)) e in
    limits_sound (plan_in bs) (scanned_limits bs a) b
