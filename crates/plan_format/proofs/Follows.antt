-- A section of single fields that met no fault: its count, and as many numbers as it says. Assumes nothing.
use mathlib.Core.Path.{◌≡◌, refl, sym, ap, ◌∙◌}
use mathlib.Core.List.{List, [], ◌∷◌, ◌++◌, append_assoc, append-nil}
use Prim.Native.Nat.{ℕ, zero, suc, ◌-◌}
use native.Mathlib.Omega.{arith}
use lib.ListN.{length, get_or, length-append}
use Rattle.plan_format.specs.Grammar.{Check, field, counted, Source, Scan, scan, read_field, last_got}
use Rattle.plan_format.specs.Grammar.{count_check, read_by}
use Rattle.plan_format.proofs.Fields.{field_done}
use Rattle.plan_format.specs.Sections.{repeat}
use Rattle.plan_format.proofs.Repeats.{read_counted}
use Rattle.plan_format.proofs.Seams.{last_snoc}

-- what follows `s` in `t`, where `t` has no fault
pub record Follows (n : ℕ) (s t : Scan) : Type 0 where
  pub clean : s.fault.number ≡ 0
  pub rest : List ℕ
  pub got : t.got ≡ s.got ++ rest
  pub long : length rest ≡ n

pub record Section (s t : Scan) : Type 0 where
  pub clean : s.fault.number ≡ 0
  pub count : ℕ
  pub rest : List ℕ
  pub got : t.got ≡ s.got ++ (count ∷ rest)
  pub long : length rest ≡ count

single : (xs : List ℕ) → length xs ≡ 1 → xs ≡ get_or xs 0 0 ∷ []
single [] e = absurd (omega arith)
single (x ∷ []) e = refl
single (x ∷ y ∷ ys) e = absurd (omega arith)

counted_follows : {s t u : Scan} → Follows 1 s u → (rest : List ℕ) → t.got ≡ u.got ++ rest →
    length rest ≡ last_got u → Section s t
unfolding last_got
counted_follows {s} {t} {u} p rest g n =
    let x = get_or p.rest 0 0 in
    let got : u.got ≡ s.got ++ (x ∷ []) = p.got ∙ ap (λ (l : List ℕ). s.got ++ l) (single p.rest p.long) in
    record {
      clean = p.clean;
      count = x;
      rest = rest;
      got = g ∙ ap (λ (l : List ℕ). l ++ rest) got ∙ append_assoc s.got (x ∷ []) rest;
      long = n ∙ ap (λ (l : List ℕ). get_or l (length l - 1) 0) got ∙ last_snoc s.got x;
    }

module _ (S : Source) where
  field_follows : (w : ℕ) (c : ℕ → ℕ) (s : Scan) → (read_field S w c s).fault.number ≡ 0 →
      Follows 1 s (read_field S w c s)
  unfolding scan
  field_follows w c s h =
      let d = field_done S w c s h in
      record {
        clean = d.begun;
        rest = S.front w s.rest ∷ [];
        got = ap (λ (t : Scan). t.got) d.result;
        long = refl;
      }

  follows_more : {n : ℕ} {s t u : Scan} → Follows n s t → Follows 1 t u → Follows (suc n) s u
  follows_more {n} {s} {t} {u} p q =
      record {
        clean = p.clean;
        rest = p.rest ++ q.rest;
        got = q.got ∙ ap (λ (l : List ℕ). l ++ q.rest) p.got ∙ append_assoc s.got p.rest q.rest;
        long = length-append p.rest q.rest ∙ omega (arith, p.long, q.long);
      }

  repeat_follows : (n w : ℕ) (c : Check) (s : Scan) → (read_by S (repeat n (field w c)) s).fault.number ≡ 0 →
      Follows n s (read_by S (repeat n (field w c)) s)
  unfolding repeat read_by
  repeat_follows zero w c s h = record { clean = h; rest = []; got = sym (append-nil s.got); long = refl }
  repeat_follows (suc n) w c s h =
      let u = read_by S (repeat n (field w c)) s in
      let q = field_follows w (λ v. c u.got v) u h in
      follows_more (repeat_follows n w c s q.clean) q

  pub section : (l m w v : ℕ) (c : Check) (s t : Scan) → read_by S (counted l m w (field v c)) s ≡ t →
      t.fault.number ≡ 0 → Section s t
  section l m w v c s t e h =
      let u = read_field S w (λ x. count_check l m x) s in
      let f = sym (read_counted S l m w (last_got u) (field v c) s u refl (λ z. refl)) ∙ e in
      let q = repeat_follows (last_got u) v c u (ap (λ (x : Scan). x.fault.number) f ∙ h) in
      counted_follows (field_follows w (λ x. count_check l m x) s q.clean) q.rest
      (ap (λ (x : Scan). x.got) (sym f) ∙ q.got) q.long
