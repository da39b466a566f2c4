-- What a reading that has come to its end answers: a refusal on the way, bytes after the end, or a whole plan. Assumes
-- nothing.
use mathlib.Core.Path.{◌≡◌, refl, sym, ap, ◌∙◌, subst}
use mathlib.Core.Bool.{Bool}
use mathlib.Core.List.{List, [], ◌++◌}
use Prim.Native.Nat.{ℕ, ◌*◌, ◌≤◌, ◌<◌}
use native.Mathlib.Omega.{arith}
use lib.ListN.{length, take, drop, length-drop, take-append-drop}
use lib.Seq.{length-take-le, take_at}
use borrow.Author.Tests.{ne_eqb}
use Rattle.base_lists.specs.Lists.{in_front}
use Rattle.base_lists.proofs.Tests.{by_cases}
use Rattle.plan_format.specs.Sizes.{plan_numbers}
use Rattle.plan_format.specs.Refusal.{Refusal, refusal, none_given, given}
use Rattle.plan_format.specs.Grammar.{bytes, Scan, scan, read_by, ended}
use Rattle.plan_format.specs.Form.{Form, form_by, is_second, form_in, plan_grammar, scanned_by}
use Rattle.plan_format.specs.Stored.{scanned, Tells}
use Rattle.plan_format.specs.declared.Told.{Told}
use Rattle.plan_format.proofs.HandedBack.{ended_none, ended_more, ended_got}
use Rattle.plan_format.proofs.Faults.{ended_stays}
use Rattle.stored_numbers.specs.Reading.{Reached, fault_of, here, Past, begun, PlanRead, Ends, NumbersRead}
use Rattle.stored_numbers.proofs.Fields.{here_given, here_clean, fault_number}

fault_place : (c : Reached) → (c.number ≡ 0 → ⊥) → (fault_of c).place ≡ c.at
unfolding fault_of refusal
fault_place c z = rw (ne_eqb c.number 0 z)

pub answer_few : (f : Refusal) (n m : ℕ) {r : Told} → Tells f n r → n ≤ m → r.answer ≤ m
answer_few f n m t l = by_cases (given f) (λ y. omega (arith, rw y at t.answer_is))
    (λ y. omega (arith, rw y at t.answer_is))

-- ---- what is told at the end
module _ (bs : List ℕ) (c : Reached) (nums : List ℕ) where
  abbrev end : Scan
  end = ended (here bs c nums)

  ends_as : {r : Told} (s : Scan) → end ≡ s → Tells s.fault (length s.got) r → Ends end r
  unfolding Ends
  ends_as {r} s e t = subst (λ (x : Scan). Tells x.fault (length x.got) r) (sym e) t

  -- a refusal on the way
  pub ends_refused : (c.number ≡ 0 → ⊥) → Ends end (record { number = c.number; place = c.at; answer = 0 })
  unfolding here scan
  ends_refused z =
      ends_as (here bs c nums) (ended_stays (here bs c nums) (here_given bs c nums z))
      (record {
        number = sym (fault_number c z);
        place = sym (fault_place c z);
        answer_is =
            rw (here_given bs c nums z);
      })

  -- bytes after the last section
  pub ends_more : c.number ≡ 0 → c.at < length bs → Ends end (record { number = 3; place = c.at; answer = 0 })
  unfolding scan refusal given
  ends_more z h =
      ends_as (scan (drop c.at bs) c.at (take c.got nums) (refusal 3 c.at))
      (ap ended (here_clean bs c nums z)
      ∙ ended_more (drop c.at bs) c.at (take c.got nums) (λ e. omega (arith, length-drop c.at bs)))
      (record { number = refl; place = refl; answer_is = refl })

  -- a whole plan
  pub ends_whole : c.number ≡ 0 → length bs ≤ c.at → c.got ≤ length nums →
      Ends end (record { number = 0; place = 0; answer = c.got })
  unfolding scan none_given given
  ends_whole z h few =
      ends_as (scan (drop c.at bs) c.at (take c.got nums) none_given)
      (ap ended (here_clean bs c nums z)
      ∙ ended_none (drop c.at bs) c.at (take c.got nums) (length-drop c.at bs ∙ omega arith))
      (record { number = refl; place = refl; answer_is = sym (length-take-le c.got nums few) })

  -- the numbers got are in front of the array, whatever the end
  pub ends_front : end.got ≡ take c.got nums
  unfolding here scan
  ends_front = ended_got (here bs c nums)

  pub ends_array : {nums₀ : List ℕ} → c.got ≤ length nums → Past c.got nums₀ nums → nums ≡ in_front end.got nums₀
  unfolding in_front
  ends_array {nums₀} few past =
      let long : length end.got ≡ c.got = ap length ends_front ∙ length-take-le c.got nums few in
      sym (take-append-drop c.got nums)
      ∙ ap (λ (l : List ℕ). take c.got nums ++ l) past.past
      ∙ sym (ap (λ (k : ℕ). end.got ++ drop k nums₀) long ∙ ap (λ (l : List ℕ). l ++ drop c.got nums₀) ends_front)

-- ---- bytes taken in a form
scanned_in : (F : Form) (bs : List ℕ) → scanned_by bytes F bs ≡ ended (read_by bytes (plan_grammar F) (begun F bs))
unfolding scanned_by begun bytes
scanned_in F bs = ap (λ (k : ℕ). ended (read_by bytes (plan_grammar F) (scan (drop k bs) k [] none_given)))
    (let e : 1 * length F.lead ≡ length F.lead = omega arith in e)

module _ {F : Form} {bs : List ℕ} {c : Reached} {nums : List ℕ} (p : PlanRead F bs c nums)
    (fits : c.got ≤ length nums) where
  by_form : scanned_by bytes F bs ≡ ended (here bs c nums)
  by_form = scanned_in F bs ∙ ap ended p.read

  -- what is told at the end, whatever array the numbers are in
  abbrev pub ToldBy : Told → Type 0
  ToldBy r = (n : List ℕ) → c.got ≤ length n → Ends (ended (here bs c n)) r

  pub form_ends : (r : Told) → ToldBy r → Ends (scanned_by bytes F bs) r
  form_ends r t = subst (λ (s : Scan). Ends s r) (sym by_form) (t nums fits)

  pub form_array : {nums₀ : List ℕ} → Past c.got nums₀ nums → nums ≡ in_front (scanned_by bytes F bs).got nums₀
  form_array {nums₀} past =
      ends_array bs c nums fits past ∙ ap (λ (s : Scan). in_front s.got nums₀) (sym by_form)

  pub form_few : (most : ℕ) → c.got ≤ most → (r : Told) → ToldBy r → r.answer ≤ most
  unfolding Ends
  form_few most l r t =
      let many : length (ended (here bs c nums)).got ≡ c.got = ap length (ends_front bs c nums)
      ∙ length-take-le c.got nums fits in
      answer_few (ended (here bs c nums)).fault (length (ended (here bs c nums)).got) most (t nums fits)
      (omega (arith, many, l))

-- ---- the form in which some bytes are read
abbrev pub ReadIn : Form → (bs : List ℕ) → Type 0
ReadIn F bs = scanned bs ≡ ended (read_by bytes (plan_grammar F) (begun F bs))

-- the first byte tells it
pub read_in : (bs : List ℕ) → ReadIn (form_in bs) bs
unfolding scanned
read_in bs = scanned_in (form_in bs) bs

pub read_in_told : {wide : Bool} (bs : List ℕ) → wide ≡ is_second bs → ReadIn (form_by wide) bs
read_in_told bs e = subst (λ (b : Bool). ReadIn (form_by b) bs) (sym e) (read_in bs)

-- ---- what is told of a whole plan
module _ {F : Form} {bs : List ℕ} (form : ReadIn F bs) {c : Reached} {nums : List ℕ} (p : PlanRead F bs c nums) where
  scanned_is : scanned bs ≡ ended (here bs c nums)
  scanned_is = form ∙ ap ended p.read

  module _ (long : length nums ≡ plan_numbers) where
    pub numbers_read : {r : Told} → Ends (ended (here bs c nums)) r → NumbersRead bs r nums
    unfolding Ends
    numbers_read {r} t =
        let told = subst (λ (s : Scan). Tells s.fault (length s.got) r) (sym scanned_is) t in
        let got : (scanned bs).got ≡ take c.got nums = ap (λ (s : Scan). s.got) scanned_is ∙ ends_front bs c nums in
        let many : length (scanned bs).got ≡ c.got = ap length got
        ∙ length-take-le c.got nums (omega (arith, p.few)) in
        record {
          told = told;
          numbers = λ z. ap (λ (k : ℕ). take k nums) many ∙ sym got;
          few = answer_few (scanned bs).fault (length (scanned bs).got) plan_numbers told
              (omega (arith, many, p.few));
          long = long;
        }

    pub read_refused : (c.number ≡ 0 → ⊥) →
        NumbersRead bs (record { number = c.number; place = c.at; answer = 0 }) nums
    read_refused z = numbers_read (ends_refused bs c nums z)

    pub read_more : c.number ≡ 0 → c.at < length bs →
        NumbersRead bs (record { number = 3; place = c.at; answer = 0 }) nums
    read_more z h = numbers_read (ends_more bs c nums z h)

    pub read_whole : c.number ≡ 0 → length bs ≤ c.at →
        NumbersRead bs (record { number = 0; place = 0; answer = c.got }) nums
    read_whole z h = numbers_read (ends_whole bs c nums z h (omega (arith, p.few)))

    pub read_array : {nums₀ : List ℕ} → Past c.got nums₀ nums → nums ≡ in_front (scanned bs).got nums₀
    read_array {nums₀} past =
        ends_array bs c nums (omega (arith, p.few)) past
        ∙ ap (λ (s : Scan). in_front s.got nums₀) (sym scanned_is)

-- the same of the numbers in front of the array
pub numbers_of : {bs : List ℕ} {s : Scan} → scanned bs ≡ s → (r : Told) (nums₀ : List ℕ) {nums : List ℕ} →
    Ends s r → nums ≡ in_front s.got nums₀ → r.answer ≤ plan_numbers → length nums ≡ plan_numbers →
    NumbersRead bs r nums
unfolding Ends in_front
numbers_of {bs} {s} e r nums₀ {nums} t a few long =
    record {
      told = subst (λ (x : Scan). Tells x.fault (length x.got) r) (sym e) t;
      numbers = λ z. ap (λ (x : Scan). take (length x.got) nums) e ∙ ap (take (length s.got)) a
          ∙ take_at s.got (drop (length s.got) nums₀) (length s.got) refl ∙ ap (λ (x : Scan). x.got) (sym e);
      few = few;
      long = long;
    }

pub form_is : {wide : Bool} (bs : List ℕ) → wide ≡ is_second bs → scanned bs ≡ scanned_by bytes (form_by wide) bs
unfolding scanned
form_is bs e = ap (λ (b : Bool). scanned_by bytes (form_by b) bs) (sym e)
