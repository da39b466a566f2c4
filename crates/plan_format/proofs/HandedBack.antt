-- What is handed back: the end of a reading, and the refusal, the answer and the room for numbers or bytes made.
-- Assumes nothing.
use mathlib.Core.Path.{◌≡◌, refl, sym, ap, ◌∙◌, subst}
use mathlib.Core.Bool.{Bool, true, false, ◌||◌, cond}
use mathlib.Core.List.{List, [], ◌∷◌}
use Prim.Native.Nat.{ℕ, ◌≤◌, ◌<◌}
use native.Mathlib.Omega.{arith}
use lib.Dec.{eqb}
use lib.ListN.{length, get_or}
use borrow.Author.Tests.{lt-ltb, le-ltb, eq-eqb, ne_eqb}
use Rattle.base_lists.specs.Lists.{in_front}
use Rattle.base_lists.proofs.Tests.{by_cases}
use Rattle.base_lists.proofs.Fronts.{front_past}
use Rattle.plan_format.specs.Refusal.{Refusal, refusal, none_given, given, or_refusal}
use Rattle.plan_format.specs.Grammar.{Scan, scan, refused, ended}
use Rattle.plan_format.specs.Stored.{room_for, Tells, Fills}
use Rattle.plan_format.specs.declared.Told.{Told}
use Rattle.plan_format.proofs.Judged.{other_given, zero_not_given}

-- ---- the end of a reading
-- 3 for a single byte that is left, at that byte
byte_left : ended (scan (9 ∷ []) 6 [] none_given) ≡ scan (9 ∷ []) 6 [] (refusal 3 6)
unfolding ended scan refused given none_given
byte_left = refl

pub ended_none : (rest : List ℕ) (at : ℕ) (got : List ℕ) → length rest ≡ 0 →
    ended (scan rest at got none_given) ≡ scan rest at got none_given
unfolding ended scan given none_given
ended_none rest at got e = rw (eq-eqb (length rest) 0 e)

pub ended_more : (rest : List ℕ) (at : ℕ) (got : List ℕ) → (length rest ≡ 0 → ⊥) →
    ended (scan rest at got none_given) ≡ scan rest at got (refusal 3 at)
unfolding ended scan given none_given refused
ended_more rest at got z = rw (ne_eqb (length rest) 0 z)

-- what was got stays
pub ended_got : (s : Scan) → (ended s).got ≡ s.got
unfolding ended refused scan
ended_got s = by_cases (given s.fault || eqb (length s.rest) 0) (λ t. rw t) (λ f. rw f)

-- ---- into the room
-- past the length nothing is touched
pub fills_past : (f : Refusal) (new : List ℕ) (r : Told) (o x : List ℕ) → Fills f new r o x → (k : ℕ) → length new ≤ k →
    get_or x k 0 ≡ get_or o k 0
unfolding Fills
fills_past f new r o x w k l = ap (λ (y : List ℕ). get_or y k 0) w.1 ∙ past (given f)
  where
    past : (b : Bool) → get_or (cond b o (in_front new o)) k 0 ≡ get_or o k 0
    past true = refl
    past false = front_past new o k 0 l

-- the refusal of a reading and of the room
filled : {f g : Refusal} (new : List ℕ) {r : Told} (room : List ℕ) {now_room : List ℕ} → f ≡ g →
    Tells g (length new) r → now_room ≡ cond (given g) room (in_front new room) → Fills f new r room now_room
unfolding Fills
filled new {r} room {now_room} e t x =
    subst (λ (h : Refusal). Tells h (length new) r × (now_room ≡ cond (given h) room (in_front new room))) (sym e)
    (t, x)

module _ (f : Refusal) (got : List ℕ) {told : Told} (t : Tells f (length got) told) (room : List ℕ) where
  clean : told.number ≡ 0 → given f ≡ false
  clean z = zero_not_given f (sym t.number ∙ z)

  pub answer_long : told.number ≡ 0 → told.answer ≡ length got
  answer_long z = rw (clean z) at t.answer_is

  pub not_read : (told.number ≡ 0 → ⊥) → Fills (or_refusal f (room_for (length got) (length room))) got told room room
  unfolding or_refusal
  not_read z =
      let g = other_given f (λ e. z (t.number ∙ e)) in
      filled {g = f} got room (rw g) t (rw g)

  pub no_room : told.number ≡ 0 → length room < told.answer →
      Fills (or_refusal f (room_for (length got) (length room))) got
      (record { number = 9; place = told.answer; answer = 0 }) room room
  unfolding or_refusal room_for refusal given
  no_room z h =
      filled {g = refusal 9 (length got)} got room
      (rw (clean z, lt-ltb (length room) (length got) (omega (arith, answer_long z))))
      (record { number = refl; place = answer_long z; answer_is = refl }) refl

  pub stored : {now_room : List ℕ} → told.number ≡ 0 → told.answer ≤ length room → now_room ≡ in_front got room →
      Fills (or_refusal f (room_for (length got) (length room))) got
      (record { number = 0; place = 0; answer = told.answer }) room now_room
  unfolding or_refusal room_for none_given given
  stored z h e =
      filled {g = none_given} got room (rw (clean z, le-ltb (length room) (length got) (omega (arith, answer_long z))))
      (record { number = refl; place = refl; answer_is = answer_long z }) e
