-- A plan in any form: what parses is read and spelled as it parses, and what is read parses. Assumes nothing.
use mathlib.Core.Path.{◌≡◌, sym, ap, ap₂, ◌∙◌, subst}
use mathlib.Core.Bool.{true}
use mathlib.Core.List.{List, [], ◌++◌, append-nil}
use Prim.Native.Nat.{ℕ, ◌*◌}
use native.Mathlib.Omega.{arith}
use lib.ListN.{length, take, drop, length-append, take-append-drop}
use lib.Seq.{drop_at}
use Rattle.plan_format.specs.Refusal.{none_given}
use Rattle.plan_format.specs.Grammar.{bytes, numbers, scan, spell_by}
use Rattle.plan_format.specs.Form.{Form, plan_grammar, scanned_by, spelled_by}
use Rattle.plan_format.specs.Stored.{all_bytes}
use Rattle.plan_format.proofs.Bytes.{bytes_drop}
use Rattle.plan_format.proofs.Parses.{Exact, Parses}
use Rattle.plan_format.proofs.Spellings.{spells}
use Rattle.plan_format.proofs.Sources.{exact_bytes, exact_numbers}
use Rattle.plan_format.proofs.Whole.{whole, whole_of}

module _ (F : Form) where
  pub spelled_parsed : (vs ds : List ℕ) → Parses Exact (plan_grammar F) [] vs ds → spelled_by F vs ≡ F.lead ++ ds
  spelled_parsed vs ds p =
      ap (λ z. F.lead ++ z)
      (ap (λ z. (spell_by (plan_grammar F) (record { left = z; made = [] })).made) (sym (append-nil vs))
      ∙ ap (λ z. z.made) (spells (plan_grammar F) [] vs ds p [] []))

  -- a plan as bytes, and as numbers
  pub bytes_whole : (vs ds : List ℕ) → Parses Exact (plan_grammar F) [] vs ds →
      scanned_by bytes F (F.lead ++ ds) ≡ scan [] (length (F.lead ++ ds)) vs none_given
  unfolding exact_bytes bytes
  bytes_whole vs ds p =
      whole bytes Exact exact_bytes F (F.lead ++ ds) vs ds p
      (drop_at F.lead ds (1 * length F.lead) (omega arith))
      ∙ ap (λ n. scan [] n vs none_given) (rw length-append (omega arith))

  pub numbers_whole : (vs ds : List ℕ) → Parses Exact (plan_grammar F) [] vs ds →
      scanned_by numbers F vs ≡ scan [] (length vs) vs none_given
  unfolding exact_numbers numbers
  numbers_whole vs ds p =
      whole numbers Exact exact_numbers F vs vs ds p (drop_at [] vs (0 * length F.lead) (omega arith))
      ∙ ap (λ n. scan [] n vs none_given) (omega arith)

  -- the bytes of a form begin with its lead
  abbrev pub Led : List ℕ → Type 0
  Led bs = take (length F.lead) bs ≡ F.lead

  -- bytes that are read without a fault are the spelling of the numbers read
  pub bytes_read : (bs : List ℕ) → all_bytes bs ≡ true → Led bs → (scanned_by bytes F bs).fault.number ≡ 0 →
      (ds : List ℕ) × Parses Exact (plan_grammar F) [] (scanned_by bytes F bs).got ds × (bs ≡ F.lead ++ ds)
  unfolding exact_bytes bytes
  bytes_read bs b l e =
      let w = whole_of bytes Exact exact_bytes F bs (bytes_drop (1 * length F.lead) bs b) e in
      let one : length F.lead ≡ 1 * length F.lead = omega arith in (
        w.ds,
        w.parsed,
        sym (take-append-drop (length F.lead) bs)
            ∙ ap₂ {C = List ℕ} (λ x y. x ++ y) l (ap (λ n. drop n bs) one ∙ w.shown),
      )

  pub numbers_read : (xs : List ℕ) → (scanned_by numbers F xs).fault.number ≡ 0 →
      (ds : List ℕ) × Parses Exact (plan_grammar F) [] xs ds
  unfolding exact_numbers numbers
  numbers_read xs e =
      let w = whole_of numbers Exact exact_numbers F xs tt e in
      let none : 0 * length F.lead ≡ 0 = omega arith in (
        w.ds,
        subst (λ z. Parses Exact (plan_grammar F) [] z w.ds) (sym w.shown ∙ ap (λ n. drop n xs) none) w.parsed,
      )
