-- What a writing to the end answers: a refusal on the way, numbers after the end, or a whole plan. Assumes nothing.
use mathlib.Core.Path.{◌≡◌, refl, sym, ap, ◌∙◌, subst}
use mathlib.Core.Bool.{Bool, true, false}
use mathlib.Core.List.{List, []}
use Prim.Native.Nat.{ℕ, ◌+◌, ◌*◌, ◌≤◌, ◌<◌}
use native.Mathlib.Omega.{arith}
use lib.ListN.{length, take, drop, length-drop}
use lib.Seq.{length-take-le}
use borrow.Author.Tests.{eqb-false, ne_eqb}
use Rattle.base_lists.specs.Lists.{in_front}
use Rattle.base_lists.proofs.Fronts.{past_later, front_taken}
use Rattle.plan_format.specs.Sizes.{most_semaphores, second_width, plan_bytes}
use Rattle.plan_format.specs.Refusal.{refusal, none_given, given}
use Rattle.plan_format.specs.Grammar.{numbers, Scan, scan, read_by, ended, Spelling, spell_by}
use Rattle.plan_format.specs.Form.{first_form, second_form, list_by, form_by, plan_grammar, scanned_by}
use Rattle.plan_format.specs.Stored.{Tells}
use Rattle.plan_format.specs.declared.Told.{Told}
use Rattle.plan_format.proofs.HandedBack.{ended_none, ended_more}
use Rattle.plan_format.proofs.Faults.{ended_stays}
use Rattle.std.specs.Prelude.{Result}
use Rattle.plan_format.specs.Told.{Refused}
use Rattle.stored_bytes.specs.declared.writer.Writer.{Writer}
use Rattle.stored_bytes.specs.Writing.{Reached, fault_of, here, spelling, after, Wrote, LeadPut, PlanWritten}
use Rattle.stored_bytes.specs.Writing.{sections_most, tried, tried_bytes, BytesWritten}
use Rattle.stored_bytes.proofs.Plans.{from_first}
use Rattle.stored_bytes.proofs.Fields.{here_given, here_clean, fault_number}
use Rattle.stored_bytes.proofs.Spelled.{spelled_after}

tried_is : {wide : Bool} {xs bytes₀ : List ℕ} {c : Reached} {bytes : List ℕ} → PlanWritten wide xs bytes₀ c bytes →
    tried wide xs ≡ ended (here xs c)
unfolding tried scanned_by numbers
tried_is {wide} {xs} p =
    ap (λ (k : ℕ). ended (read_by numbers (plan_grammar (list_by wide)) (scan (drop k xs) k [] none_given)))
    (let e : 0 * length (list_by wide).lead ≡ 0 = omega arith in e)
    ∙ ap ended p.read

spelled_is : {wide : Bool} {xs bytes₀ : List ℕ} {c : Reached} {bytes : List ℕ} → PlanWritten wide xs bytes₀ c bytes →
    c.number ≡ 0 → tried_bytes wide xs ≡ take c.put bytes
unfolding spelling
spelled_is {wide} {xs} p z = sym (spelled_after wide xs) ∙ ap (λ (s : Spelling). s.made) (p.spell z)

tells : (wide : Bool) (xs : List ℕ) {n : ℕ} {r : Told} (s : Scan) → tried wide xs ≡ s → Tells s.fault n r →
    Tells (tried wide xs).fault n r
tells wide xs {n} {r} s e t = subst (λ (x : Scan). Tells x.fault n r) (sym e) t

fault_place : (c : Reached) → (c.number ≡ 0 → ⊥) → (fault_of c).place ≡ c.at
unfolding fault_of refusal
fault_place c z = rw (ne_eqb c.number 0 z)

pub lead_short : (wide : Bool) → length (form_by wide).lead ≤ 1
unfolding form_by first_form second_form
lead_short true = omega arith
lead_short false = omega arith

-- what is written after the lead
pub plan_written : {A : Type 0} {wide : Bool} {b : List ℕ} {w v : Writer} {r : Result A Refused} → w.cursor.at ≡ 0 →
    LeadPut (form_by wide).lead b w.cursor.put w.bytes.now →
    Wrote (plan_grammar (list_by wide)) (sections_most (second_width + most_semaphores)) w r v →
    PlanWritten wide w.numbers.now b (after r v.cursor) v.bytes.now
unfolding here scan fault_of spelling
plan_written {wide = wide} {b} {w} {v} z lead p =
    let q = from_first z p in
    record {
      read = q.read;
      spell = λ e. ap (λ (l : List ℕ). spell_by (plan_grammar (list_by wide))
          (record { left = w.numbers.now; made = l }))
          (sym lead.front) ∙ q.spell e;
      inside = q.inside;
      few = omega (arith, lead.long, lead_short wide, q.few);
      by_eight = omega (arith, lead.long, q.by_eight);
      past = q.past ∙ past_later _ _ w.bytes.now b q.more lead.past;
    }

module _ {wide : Bool} {xs bytes₀ : List ℕ} {c : Reached} {bytes : List ℕ} (p : PlanWritten wide xs bytes₀ c bytes)
    (long : length bytes ≡ plan_bytes) where
  abbrev end : ℕ
  end = length (form_by wide).lead + 8 * c.at

  stays : drop end bytes ≡ drop end bytes₀
  stays = past_later c.put end bytes bytes₀ p.by_eight p.past

  -- a refusal on the way
  pub written_refused : (c.number ≡ 0 → ⊥) →
      BytesWritten wide xs bytes₀ (record { number = c.number; place = c.at; answer = 0 }) bytes
  unfolding here scan
  written_refused z =
      record {
        told =
            tells wide xs (here xs c) (tried_is p ∙ ended_stays (here xs c) (here_given xs c z))
            (record {
              number = sym (fault_number c z);
              place = sym (fault_place c z);
              answer_is = rw (here_given xs c z);
            });
        passed = λ e. absurd (z e);
        refused = λ _. stays;
        few = omega arith;
        long = long;
      }

  -- numbers after the last section
  pub written_more : c.number ≡ 0 → c.at < length xs →
      BytesWritten wide xs bytes₀ (record { number = 3; place = c.at; answer = 0 }) bytes
  unfolding scan refusal given
  written_more z h =
      record {
        told =
            tells wide xs (scan (drop c.at xs) c.at (take c.at xs) (refusal 3 c.at))
            (tried_is p ∙ ap ended (here_clean xs c z)
            ∙ ended_more (drop c.at xs) c.at (take c.at xs) (λ e. omega (arith, length-drop c.at xs)))
            (record { number = refl; place = refl; answer_is = refl });
        passed = λ e. absurd (eqb-false 3 0 refl e);
        refused = λ _. stays;
        few = omega arith;
        long = long;
      }

  -- a whole plan
  pub written_whole : c.number ≡ 0 → length xs ≤ c.at →
      BytesWritten wide xs bytes₀ (record { number = 0; place = 0; answer = c.put }) bytes
  unfolding scan none_given given
  written_whole z h =
      let l : length (tried_bytes wide xs) ≡ c.put = ap length (spelled_is p z)
      ∙ length-take-le c.put bytes (omega (arith, p.few)) in
      record {
        told =
            tells wide xs (scan (drop c.at xs) c.at (take c.at xs) none_given)
            (tried_is p ∙ ap ended (here_clean xs c z)
            ∙ ended_none (drop c.at xs) c.at (take c.at xs) (length-drop c.at xs ∙ omega arith))
            (record { number = refl; place = refl; answer_is = sym l });
        passed = λ e. front_taken c.put bytes bytes₀ (omega (arith, p.few)) p.past
            ∙ ap (λ (front : List ℕ). in_front front bytes₀) (sym (spelled_is p z));
        refused = λ e. absurd (e refl);
        few = p.few;
        long = long;
      }
