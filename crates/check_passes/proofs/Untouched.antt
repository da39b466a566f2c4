-- Refusals 7 to 9 as answers of the check: table and list untouched. Assumes nothing.
use mathlib.Core.Path.{◌≡◌, refl, sym, ap, ◌∙◌, subst}
use mathlib.Core.Bool.{cond}
use mathlib.Core.List.{List}
use Prim.Native.Nat.{ℕ, ◌*◌, ◌≤◌, ◌<◌}
use lib.ListN.{length}
use borrow.Author.Tests.{lt-ltb, le-ltb}
use Rattle.plan_format.specs.Sizes.{row_width}
use Rattle.plan_format.specs.Refusal.{Refusal, refusal, none_given, given, or_refusal}
use Rattle.plan_format.specs.Plan.{Plan, count}
use Rattle.plan_format.specs.Sound.{rules_refusal}
use Rattle.plan_format.specs.Stored.{room_for, Tells}
use Rattle.plan_format.specs.declared.Told.{Told}
use Rattle.plan_format.proofs.Judged.{zero_not_given, other_given, or_else_none}
use Rattle.plan_format.proofs.Telling.{tells_answerless}
use Rattle.plan_format.proofs.RoomMeaning.{room_for_none}
use Rattle.plan_order.specs.Check.{room_refusal, Outcome, untouched, outcome, or_then, plan_outcome, table_left}
use Rattle.plan_order.specs.Check.{list_left, left_in, Says, PlanCheckSays}
use Rattle.check_signals.specs.Walks.{Judged}
use Rattle.check_signals.proofs.Told.{refused_alike, passed_with, answer_told}
use Rattle.check_waits.specs.Waits.{Resolved}
use Rattle.check_waits.proofs.Rules.{seven_first, then_eight}
use Rattle.check_passes.specs.Given.{Ruled}

-- ---- 7 and 8
module _ {p : Plan} {r : Told} {last : List ℕ} (judged : Judged p r last) {source : List ℕ} where
  pub seven : (r.number ≡ 0 → ⊥) → Ruled p r source
  seven z = record {
    owned = judged.owned;
    owned_means = judged.owned_means;
    told = subst (λ (f : Refusal). Tells f (cond judged.owned 1 0) r)
        (sym (seven_first p (λ e. z (judged.told.number ∙ e)))) judged.told;
    sources_shown = λ e. absurd (z e);
  }

  module _ {w : Told} (z : r.number ≡ 0) (none : w.answer ≡ 0) (resolved : Resolved p w source) where
    then_told : Tells (rules_refusal p) 0 w
    then_told =
        subst (λ (f : Refusal). Tells f 0 w) (sym (then_eight p (sym judged.told.number ∙ z)))
        (tells_answerless none resolved.number resolved.place)

    pub eight : (w.number ≡ 0 → ⊥) → Ruled p w source
    eight refused = record {
      owned = judged.owned;
      owned_means = judged.owned_means;
      told = refused_alike then_told refused;
      sources_shown = resolved.sources_shown;
    }

    pub neither : w.number ≡ 0 →
        Ruled p (record { number = w.number; place = w.place; answer = r.answer }) source
    neither passed = record {
      owned = judged.owned;
      owned_means = judged.owned_means;
      told = passed_with then_told passed (answer_told judged.told z);
      sources_shown = resolved.sources_shown;
    }

-- ---- table and list untouched
module _ (p : Plan) (r : Told) (t l : List ℕ) where
  says_untouched : (f : Refusal) → plan_outcome p (length t) (length l) ≡ outcome f untouched → Tells f 0 r →
      PlanCheckSays p r t t l l
  unfolding PlanCheckSays outcome table_left list_left left_in
  says_untouched f e h =
      subst (λ (o : Outcome). Says o 0 p r t t l l) (sym e)
      (record { tells = h; table_holds = refl; list_holds = refl })

  -- 7 and 8
  pub not_ruled : Tells (rules_refusal p) 0 r → (r.number ≡ 0 → ⊥) → PlanCheckSays p r t t l l
  unfolding plan_outcome or_then outcome
  not_ruled h z = says_untouched (rules_refusal p) (rw (other_given (rules_refusal p) (λ e. z (h.number ∙ e)))) h

  -- 9
  pub no_room : (n : ℕ) → count p ≡ n → (rules_refusal p).number ≡ 0 →
      Tells (room_refusal n (length t) (length l)) 0 r →
      (r.number ≡ 0 → ⊥) → PlanCheckSays p r t t l l
  unfolding plan_outcome or_then outcome
  no_room n many good h z =
      let f = room_refusal n (length t) (length l) in
      let same : room_refusal (count p) (length t) (length l) ≡ f =
      ap (λ (k : ℕ). room_refusal k (length t) (length l)) many in
      says_untouched f (rw (zero_not_given (rules_refusal p) good, same, other_given f (λ e. z (h.number ∙ e)))) h

-- ---- the room
module _ (n t l : ℕ) where
  pub short_table : t < row_width * n → room_refusal n t l ≡ refusal 9 (row_width * n)
  unfolding room_refusal room_for or_refusal given refusal
  short_table h = rw (lt-ltb t (row_width * n) h)

  pub short_list : row_width * n ≤ t → l < 2 * n → room_refusal n t l ≡ refusal 9 (2 * n)
  unfolding room_refusal room_for or_refusal given none_given
  short_list h k = rw (le-ltb t (row_width * n) h, lt-ltb l (2 * n) k)

  pub room_enough : row_width * n ≤ t → 2 * n ≤ l → room_refusal n t l ≡ refusal 0 0
  unfolding room_refusal room_for or_refusal given none_given refusal
  room_enough h k = rw (le-ltb t (row_width * n) h, le-ltb l (2 * n) k)

-- no refusal is enough room
pub has_room : (n t l : ℕ) {r : Told} → Tells (room_refusal n t l) 0 r → r.number ≡ 0 →
    (row_width * n ≤ t) × (2 * n ≤ l)
unfolding room_refusal
has_room n t l h z =
    let (a, b) = or_else_none (room_for (row_width * n) t) (room_for (2 * n) l) (sym h.number ∙ z) in
    (room_for_none (row_width * n) t a, room_for_none (2 * n) l b)
