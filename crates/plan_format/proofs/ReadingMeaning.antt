-- Numbers 1 to 5 and 16 of a whole reading come from the first fault in reading order; those of a stored plan are
-- these, then 7 and 8. Assumes nothing.
use mathlib.Core.Path.{◌≡◌, refl, sym, ap, ◌∙◌, subst}
use mathlib.Core.Logic.{◌⊎◌, inl, inr}
use mathlib.Core.List.{List}
use Prim.Native.Nat.{ℕ, ◌*◌, ◌≤◌, ◌<◌}
use native.Mathlib.Omega.{arith}
use lib.Dec.{eqb}
use lib.ListN.{length, length-drop}
use borrow.Author.Tests.{eqb-true, eqb-false, eq-eqb, ne_eqb}
use Rattle.base_lists.proofs.Tests.{by_cases, either}
use Rattle.plan_format.specs.Refusal.{refusal, none_given, given}
use Rattle.plan_format.specs.RefusalNumbers.{NoneOr, reading_numbers}
use Rattle.plan_format.specs.Grammar.{Grammar, Source, Scan, bytes, numbers, scan, refused, read_by, ended}
use Rattle.plan_format.specs.Form.{Form, form_in, list_form, plan_grammar, scanned_by}
use Rattle.plan_format.specs.Stored.{scanned, listed, plan_in, plan_refusal}
use Rattle.plan_format.specs.Sound.{rules_refusal}
use Rattle.plan_format.specs.Meaning.{Refuses, Cursor, Reads, Stops, start, ReadingMeans, BytesMean}
use Rattle.plan_format.specs.Meaning.{NumbersMean, PlanRefusalMeans}
use Rattle.plan_format.proofs.Forms.{led_in}
use Rattle.plan_format.proofs.Judged.{refusal_given, other_given, or_else_first, or_else_second}
use Rattle.plan_format.proofs.Faults.{ended_stays}
use Rattle.plan_format.proofs.ChecksMeaning.{checks_mean}
use Rattle.plan_format.proofs.Numbers.{sections_answer, scanned_number, listed_number, plan_number}
use Rattle.plan_format.proofs.RulesMeaning.{rules_mean}
use Rattle.plan_format.proofs.Positions.{limits_above_zero}
use Rattle.plan_format.proofs.Plans.{scanned_limits}
use Rattle.plan_format.proofs.Stopping.{at, through, reads_back, stops_back, stops_given}
use Rattle.plan_format.proofs.Stopping.{reads_level, stops_level}

-- ---- the end of a reading
module _ (b : Cursor) where
  ended_whole : length b.rest ≡ 0 → ended (at b none_given) ≡ at b none_given
  unfolding ended scan none_given given
  ended_whole e = rw (eq-eqb (length b.rest) 0 e)

  ended_more : 0 < length b.rest → ended (at b none_given) ≡ at b (refusal 3 b.place)
  unfolding ended scan none_given given refused
  ended_more l = rw (ne_eqb (length b.rest) 0 (λ z. omega arith))

  ended_stopped : (n : ℕ) → (n ≡ 0 → ⊥) → ended (at b (refusal n b.place)) ≡ at b (refusal n b.place)
  unfolding scan
  ended_stopped n h = ended_stays (at b (refusal n b.place)) (refusal_given n b.place h)

  refuses_at : (s : Scan) (n i : ℕ) → s ≡ at b (refusal n i) → Refuses s.fault n i
  unfolding scan refusal
  refuses_at s n i e = (ap (λ (z : Scan). z.fault.number) e, ap (λ (z : Scan). z.fault.place) e)

  none_at : (s : Scan) → s ≡ at b none_given → Refuses s.fault 0 0 × (s.got ≡ b.got)
  unfolding scan none_given
  none_at s e =
      ((ap (λ (z : Scan). z.fault.number) e, ap (λ (z : Scan). z.fault.place) e), ap (λ (z : Scan). z.got) e)

module _ (S : Source) (F : Form) (xs : List ℕ) where
  abbrev G : Grammar
  G = plan_grammar F

  abbrev a : Cursor
  a = start S F xs

  abbrev read : Scan
  read = ended (read_by S G (at a none_given))

  none_begun : none_given.number ≡ 0
  unfolding none_given
  none_begun = refl

  whole_is : (b : Cursor) → Reads S G a b → length b.rest ≡ 0 → read ≡ at b none_given
  whole_is b r e = ap ended (reads_back S none_given none_begun G a b r) ∙ ended_whole b e

  more_is : (b : Cursor) → Reads S G a b → 0 < length b.rest → read ≡ at b (refusal 3 b.place)
  more_is b r l = ap ended (reads_back S none_given none_begun G a b r) ∙ ended_more b l

  stop_is : (b : Cursor) (n : ℕ) → Stops S G a b n → read ≡ at b (refusal n b.place)
  stop_is b n t = ap ended (stops_back S none_given none_begun G a b n t)
      ∙ ended_stopped b n (stops_given S G a b n t)

  data ReadCase : Type 0 where
    whole : (b : Cursor) → Reads S G a b → length b.rest ≡ 0 → ReadCase
    more : (b : Cursor) → Reads S G a b → 0 < length b.rest → ReadCase
    stop : (b : Cursor) (n : ℕ) → Stops S G a b n → ReadCase

  read_case : ReadCase
  read_case =
      either (through S G a)
      (λ x. by_cases (eqb (length x.0.rest) 0) (λ t. whole x.0 x.1 (eqb-true (length x.0.rest) 0 t))
      (λ f. let ne = eqb-false (length x.0.rest) 0 f in more x.0 x.1 (omega arith)))
      (λ x. stop x.0 x.1 x.2)

  abbrev Stopped : (n i : ℕ) → Type 0
  Stopped n i = (b : Cursor) × (b.place ≡ i) × (Stops S G a b n ⊎ ((n ≡ 3) × Reads S G a b × (0 < length b.rest)))

  fault_stops : ReadCase → (n i : ℕ) → (n ≡ 0 → ⊥) → Refuses read.fault n i → Stopped n i
  fault_stops (whole b r e) n i h f = absurd (h (sym f.0 ∙ (none_at b read (whole_is b r e)).0.0))
  fault_stops (more b r l) n i h f =
      let w = refuses_at b read 3 b.place (more_is b r l) in (b, sym w.1 ∙ f.1, inr (sym f.0 ∙ w.0, r, l))
  fault_stops (stop b m t) n i h f =
      let w = refuses_at b read m b.place (stop_is b m t) in
      (b, sym w.1 ∙ f.1, inl (subst (λ (z : ℕ). Stops S G a b z) (sym w.0 ∙ f.0) t))

  stops_fault : (n i : ℕ) → Stopped n i → Refuses read.fault n i
  stops_fault n i (b, e, inl t) = let w = refuses_at b read n b.place (stop_is b n t) in (w.0, w.1 ∙ e)
  stops_fault n i (b, e, inr t) =
      let w = refuses_at b read 3 b.place (more_is b t.1 t.2) in (w.0 ∙ sym t.0, w.1 ∙ e)

  none_reads : ReadCase → Refuses read.fault 0 0 →
      (b : Cursor) × Reads S G a b × (length b.rest ≡ 0) × (read.got ≡ b.got)
  none_reads (whole b r e) f = (b, r, e, (none_at b read (whole_is b r e)).1)
  none_reads (more b r l) f = absurd (omega (arith, f.0, (refuses_at b read 3 b.place (more_is b r l)).0))
  none_reads (stop b m t) f =
      absurd (stops_given S G a b m t (sym (refuses_at b read m b.place (stop_is b m t)).0 ∙ f.0))

  -- the input has the lead byte
  abbrev Led : Type 0
  Led = S.leads * length F.lead ≤ length xs

  place_inside : Led → ReadCase → read.fault.place ≤ length xs
  place_inside led (whole b r e) = omega (arith, (none_at b read (whole_is b r e)).0.1)
  place_inside led (more b r l) = omega (
    arith,
    (refuses_at b read 3 b.place (more_is b r l)).1,
    reads_level S G a b r,
    length-drop (S.leads * length F.lead) xs,
  )
  place_inside led (stop b m t) = omega (
    arith,
    (refuses_at b read m b.place (stop_is b m t)).1,
    stops_level S G a b m t,
    length-drop (S.leads * length F.lead) xs,
  )

  reading_means : Led → NoneOr reading_numbers read.fault.number → ReadingMeans S F xs read
  reading_means led number = record {
    fault = λ n i h. (fault_stops read_case n i h, stops_fault n i);
    none = (none_reads read_case, (λ w. (none_at w.0 read (whole_is w.0 w.1 w.2)).0));
    only = number;
    inside = place_inside led read_case;
    fields = sections_answer F;
    checks = checks_mean;
  }

pub scanned_means : (bs : List ℕ) → BytesMean bs
unfolding scanned scanned_by bytes
scanned_means bs = reading_means bytes (form_in bs) bs (omega (arith, led_in bs)) (scanned_number bs)

pub listed_means : (xs : List ℕ) → NumbersMean xs
unfolding listed scanned_by numbers
listed_means xs = reading_means numbers list_form xs (omega arith) (listed_number xs)

-- 1 to 5 and 16 first, then 7 and 8
pub plan_refusal_means : (bs : List ℕ) → PlanRefusalMeans bs (plan_refusal bs)
unfolding plan_refusal
plan_refusal_means bs =
    let a = (scanned bs).fault in
    let b = rules_refusal (plan_in bs) in
    record {
      reading = scanned_means bs;
      reading_first = λ h. or_else_first a b (other_given a h);
      then_rules = λ e. rw (or_else_second a b e)
          (rules_mean (plan_in bs) (limits_above_zero (scanned_limits bs e)));
      only = plan_number bs;
    }
