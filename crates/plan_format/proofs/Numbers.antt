-- Which numbers a reading's fault can have (R53). Assumes nothing.
use mathlib.Core.Path.{◌≡◌, refl}
use mathlib.Core.Bool.{Bool, true, false, ◌||◌, cond}
use mathlib.Core.Logic.{◌⊎◌, inl, inr}
use mathlib.Core.List.{List, [], ◌∷◌, ◌++◌}
use Prim.Native.Nat.{ℕ, zero, suc, ◌+◌, ◌*◌}
use lib.Dec.{ltb, eqb}
use lib.ListN.{length, get_or, drop}
use lib.Seq.{get_or-drop}
use Rattle.base_lists.specs.Lists.{member, all}
use Rattle.base_lists.proofs.Tests.{by_cases, either, and_left, and_right}
use Rattle.plan_format.specs.Sizes.{least_wait}
use Rattle.plan_format.specs.Refusal.{refusal, none_given, given, or_refusal}
use Rattle.plan_format.specs.RefusalNumbers.{NoneOr, reading_numbers, rule_numbers, plan_gives}
use Rattle.plan_format.specs.Grammar.{Grammar, field, seq, counted, nothing, Source, Scan, bytes, numbers}
use Rattle.plan_format.specs.Grammar.{scan, refused, field_number, read_field, last_got, times, count_check}
use Rattle.plan_format.specs.Grammar.{read_by, ended}
use Rattle.plan_format.specs.Form.{Form, form_in, list_form, queue_count, semaphore_count, buffer_count}
use Rattle.plan_format.specs.Form.{any_number}
use Rattle.plan_format.specs.Form.{below, at_least, new_axis, a_queue, a_semaphore, a_buffer, a_kind, point, mark}
use Rattle.plan_format.specs.Form.{operation, plan_grammar, scanned_by}
use Rattle.plan_format.specs.Stored.{scanned, listed, plan_in, plan_refusal}
use Rattle.plan_format.specs.Sound.{rules_refusal}
use Rattle.plan_format.specs.Meaning.{fields_in, FieldsAnswer, field_numbers, SectionsAnswer}
use Rattle.plan_format.proofs.RefusalNumbers.{none_or_left, none_or_right}
use Rattle.plan_format.proofs.Judged.{not_given_zero}
use Rattle.plan_format.proofs.ChecksMeaning.{checks_mean}
use Rattle.plan_format.proofs.RulesMeaning.{rules_mean}
use Rattle.plan_format.proofs.Positions.{limits_above_zero}
use Rattle.plan_format.proofs.Plans.{scanned_limits}

cond_has : {A : Type 0} (Q : A → Type 0) (b : Bool) (x y : A) → Q x → Q y → Q (cond b x y)
cond_has Q true x y h g = h
cond_has Q false x y h g = g

-- what the check of every field answers has P, counts aside
abbrev EveryField : (P : ℕ → Type 0) → Grammar → Type 0
EveryField P (field w c) = (got : List ℕ) (v : ℕ) → P (c got v)
EveryField P (seq g h) = EveryField P g × EveryField P h
EveryField P (counted l m w g) = EveryField P g
EveryField P nothing = Unit {0}

every_field : (P : ℕ → Type 0) → P 0 → (ns : List ℕ) → ((k : ℕ) → P (get_or ns k 0)) → (g : Grammar) →
    FieldsAnswer ns g → EveryField P g
every_field P z ns p (field w c) h = λ got v. either (h got v) (λ e. rw e z) (λ e. rw e (p 0))
every_field P z ns p (seq g k) h = (
  every_field P z ns p g h.0,
  every_field P z (drop (fields_in g) ns) (λ i. rw (get_or-drop (fields_in g) ns i 0) (p (fields_in g + i))) k h.1,
)
every_field P z ns p (counted l m w g) h = every_field P z ns p g h
every_field P z ns p nothing h = tt

abbrev FaultHas : (P : ℕ → Type 0) → Scan → Type 0
FaultHas P s = P s.fault.number

-- 0, a field cut short, a count, a number too wide for its bytes: so has the fault's number it
module _ (P : ℕ → Type 0) (p0 : P 0) (p1 : P 1) (p2 : P 2) (p4 : P 4) (S : Source) where
  number_has : (w : ℕ) (c : ℕ → ℕ) (r : List ℕ) → ((v : ℕ) → P (c v)) → P (field_number S w c r)
  unfolding field_number
  number_has w c r h =
      let v = S.front w r in
      cond_has P (ltb (length r) (S.wide w)) 1 (cond (eqb (c v) 0) (cond (S.fits w v) 0 4) (c v)) p1
      (cond_has P (eqb (c v) 0) (cond (S.fits w v) 0 4) (c v) (cond_has P (S.fits w v) 0 4 p0 p4) (h v))

  field_has : (w : ℕ) (c : ℕ → ℕ) (s : Scan) → ((v : ℕ) → P (c v)) → FaultHas P s → FaultHas P (read_field S w c s)
  unfolding read_field refused refusal scan
  field_has w c s h e =
      let n = field_number S w c s.rest in
      let v = S.front w s.rest in
      let on = scan (drop (S.wide w) s.rest) (s.place + S.wide w) (s.got ++ (v ∷ [])) s.fault in
      cond_has (FaultHas P) (given s.fault) s (cond (eqb n 0) on (refused n s)) e
      (cond_has (FaultHas P) (eqb n 0) on (refused n s) e (number_has w c s.rest h))

  times_has : (k : ℕ) (f : Scan → Scan) → ((s : Scan) → FaultHas P s → FaultHas P (f s)) → (s : Scan) →
      FaultHas P s → FaultHas P (times k f s)
  unfolding times
  times_has zero f h s e = e
  times_has (suc k) f h s e = times_has k f h (f s) (h s e)

  read_has : (g : Grammar) → EveryField P g → (s : Scan) → FaultHas P s → FaultHas P (read_by S g s)
  unfolding read_by
  read_has (field w c) h s e = field_has w (λ v. c s.got v) s (λ v. h s.got v) e
  read_has (seq g k) h s e = read_has k h.1 (read_by S g s) (read_has g h.0 s e)
  read_has (counted l m w g) h s e =
      let t = read_field S w (λ v. count_check l m v) s in
      let f = field_has w (λ v. count_check l m v) s
      (λ v. unfold count_check in (cond_has P (ltb v l || ltb m v) 2 0 p2 p0)) e in
      cond_has (FaultHas P) (given t.fault) t (times (last_got t) (λ u. read_by S g u) t) f
      (times_has (last_got t) (λ u. read_by S g u) (read_has g h) t f)
  read_has nothing h s e = e

  ended_has : P 3 → (s : Scan) → FaultHas P s → FaultHas P (ended s)
  unfolding ended refused refusal scan
  ended_has p3 s e = cond_has (FaultHas P) (given s.fault || eqb (length s.rest) 0) s (refused 3 s) e p3

-- ---- the numbers of a reading
abbrev OrNone : (n m : ℕ) → Type 0
OrNone n m = (m ≡ 0) ⊎ (m ≡ n)

below_four : (limit v : ℕ) → OrNone 4 (below limit v)
unfolding below
below_four l v = cond_has (OrNone 4) (ltb v l) 0 4 (inl refl) (inr refl)

pub sections_answer : (F : Form) → SectionsAnswer F
unfolding plan_grammar operation point mark new_axis a_queue a_semaphore a_buffer a_kind any_number at_least
sections_answer F =
    let queue : (g : List ℕ) (v : ℕ) → OrNone 4 (below (queue_count g) v) = λ g v. below_four (queue_count g) v in
    let semaphore : (g : List ℕ) (v : ℕ) → OrNone 4 (below (semaphore_count g) v) =
    λ g v. below_four (semaphore_count g) v in (
      (λ g v. cond_has (OrNone 5) (member v (drop 1 g)) 5 0 (inr refl) (inl refl)),
      (
        queue,
        (
          (λ g v. inl refl),
          (
            queue,
            (
              (semaphore, (λ g v. cond_has (OrNone 16) (ltb v least_wait) 16 0 (inr refl) (inl refl))),
              (
                (semaphore, (λ g v. inl (checks_mean g v).signal_value)),
                ((λ g v. below_four (buffer_count g) v), (λ g v. below_four 2 v)),
              ),
            ),
          ),
        ),
      ),
    )

abbrev OfAReading : ℕ → Type 0
OfAReading n = NoneOr reading_numbers n

-- a list of such numbers
of_readings : (ns : List ℕ) → all (λ n. member n (0 ∷ reading_numbers)) ns ≡ true → (k : ℕ) →
    OfAReading (get_or ns k 0)
unfolding all member
of_readings [] h k = refl
of_readings (n ∷ ns) h zero =
    and_left (member n (0 ∷ reading_numbers)) (all (λ m. member m (0 ∷ reading_numbers)) ns) h
of_readings (n ∷ ns) h (suc k) =
    of_readings ns (and_right (member n (0 ∷ reading_numbers)) (all (λ m. member m (0 ∷ reading_numbers)) ns) h) k

grammar_numbers : (F : Form) → EveryField OfAReading (plan_grammar F)
unfolding all member
grammar_numbers F =
    every_field OfAReading refl field_numbers (of_readings field_numbers refl) (plan_grammar F) (sections_answer F)

-- of a reader's fault, and of a writer's
pub fault_number : (S : Source) (F : Form) (xs : List ℕ) →
    NoneOr reading_numbers (scanned_by S F xs).fault.number
unfolding scanned_by none_given scan member
fault_number S F xs =
    let k = S.leads * length F.lead in
    let s = scan (drop k xs) k [] none_given in
    ended_has OfAReading refl refl refl refl S refl (read_by S (plan_grammar F) s)
    (read_has OfAReading refl refl refl refl S (plan_grammar F) (grammar_numbers F) s refl)

pub scanned_number : (bs : List ℕ) → NoneOr reading_numbers (scanned bs).fault.number
unfolding scanned
scanned_number bs = fault_number bytes (form_in bs) bs

pub listed_number : (xs : List ℕ) → NoneOr reading_numbers (listed xs).fault.number
unfolding listed
listed_number xs = fault_number numbers list_form xs

-- ---- those of a stored plan
pub plan_number : (bs : List ℕ) → NoneOr plan_gives (plan_refusal bs).number
unfolding plan_refusal or_refusal
plan_number bs =
    let a = (scanned bs).fault in
    let b = rules_refusal (plan_in bs) in
    by_cases (given a) (λ t. rw t (none_or_left reading_numbers rule_numbers a.number (scanned_number bs)))
    (λ f. rw f (none_or_right reading_numbers rule_numbers b.number
    (rules_mean (plan_in bs) (limits_above_zero (scanned_limits bs (not_given_zero a f)))).only))
