-- Text put in lent room: nothing, a byte, one text after another, and the numbers of a list. Assumes nothing.
use mathlib.Core.Path.{◌≡◌, refl, ap, sym, subst, ◌∙◌}
use mathlib.Core.List.{List, [], ◌∷◌, ◌++◌, map, append-nil, append_assoc}
use Rattle.std.proofs.lemmas.List.{map-append}
use Prim.Native.Nat.{ℕ, zero, suc, ◌+◌, ◌<◌, ◌≤◌, min, max}
use native.Mathlib.Omega.{arith}
use native.Mathlib.Numerals.{add-one}
use lib.Dec.{ltb}
use borrow.Author.Tests.{ltb-true, ltb-false, eq-eqb, ne_eqb}
use lib.ListN.{length, set, take, get_or, length-set, length-append}
use lib.Seq.{set_out, take-suc}
use Rattle.base_lists.specs.Lists.{join_from}
use Rattle.base_lists.proofs.Tests.{by_cases}
use Rattle.base_text.specs.Text.{put, Puts, Adds, after_blank, blanked, refused_text, or_refused}
use Rattle.base_text.specs.declared.Text.{Text}

pub put_length : (t : List ℕ) (a : ℕ) (o : List ℕ) → length (put t a o) ≡ length o
unfolding put
put_length [] a o = refl
put_length (b ∷ t) a o = put_length t (suc a) (set o a b) ∙ length-set o a b

-- past the end nothing is put
pub put_out : (t : List ℕ) (a : ℕ) (o : List ℕ) → length o ≤ a → put t a o ≡ o
unfolding put
put_out [] a o h = refl
put_out (b ∷ t) a o h = rw (set_out o a b h) (put_out t (suc a) o (omega arith))

pub put_append : (s t : List ℕ) (a : ℕ) (o : List ℕ) → put (s ++ t) a o ≡ put t (a + length s) (put s a o)
unfolding put
put_append [] t a o = ap (λ (k : ℕ). put t k o) (omega arith)
put_append (b ∷ s) t a o = put_append s t (suc a) (set o a b)
    ∙ ap (λ (k : ℕ). put t k (put s (suc a) (set o a b))) (omega arith)

-- where one text ends is as good a place for the next as the sum of the lengths
put_end : (t o : List ℕ) (a k e : ℕ) → e ≡ max a (min (a + k) (length o)) → put t e o ≡ put t (a + k) o
put_end t o a k e h =
    by_cases (ltb (length o) (a + k))
    (λ over. put_out t e o (omega (arith, ltb-true (length o) (a + k) over))
    ∙ sym (put_out t (a + k) o (omega (arith, ltb-true (length o) (a + k) over))))
    (λ fits. ap (λ (x : ℕ). put t x o) (omega (arith, ltb-false (length o) (a + k) fits)))

pub puts_none : (o : List ℕ) (a : ℕ) → Puts [] o a o a
unfolding put
puts_none o a = record { room_is = refl; end_is = omega arith }

pub puts_both :
    {s t o x y : List ℕ} {a e f : ℕ} → Puts s o a x e → Puts t x e y f → Puts (s ++ t) o a y f
puts_both {s} {t} {o} {x} {y} {a} {e} {f} p q =
    record {
      room_is =
          q.room_is
          ∙ rw p.room_is
          (put_end t (put s a o) a (length s) e (rw put_length p.end_is) ∙ sym (put_append s t a o));
      end_is = omega (arith, length-append s t, p.end_is, q.end_is, ap length p.room_is, put_length s a o);
    }

pub puts_byte : (o : List ℕ) (a b : ℕ) → a < length o → Puts (b ∷ []) o a (set o a b) (a + 1)
unfolding put
puts_byte o a b h = record { room_is = refl; end_is = omega arith }

pub puts_full : (o : List ℕ) (a b : ℕ) → length o ≤ a → Puts (b ∷ []) o a o a
puts_full o a b h = record { room_is = sym (put_out (b ∷ []) a o h); end_is = omega arith }

-- ---- the same of a room and how much of it is text

pub adds_none : (t : Text) → Adds [] t t
adds_none t = record { puts = puts_none _ _; same_room = refl }

pub adds_both : {s t : List ℕ} {a b c : Text} → Adds s a b → Adds t b c → Adds (s ++ t) a c
adds_both p q = record { puts = puts_both p.puts q.puts; same_room = q.same_room ∙ p.same_room }

-- one more byte of a text
pub adds_more :
    (t : List ℕ) (i : ℕ) {a b c : Text} → i < length t → Adds (take i t) a b → Adds (get_or t i 0 ∷ []) b c →
    Adds (take (i + 1) t) a c
adds_more t i h p q = rw (add-one, take-suc t i 0 h) (adds_both p q)

-- text put in a room from its start on
pub lent :
    {t o x : List ℕ} {e : ℕ} {a b : Text} → a.room.now ≡ o → a.len ≡ 0 → Adds t a b → b.room.now ≡ x → b.len ≡ e →
    Puts t o 0 x e
lent r n p w l = rw (r, n, w, l) at p.puts

blanked_append : (s t : List ℕ) → blanked (s ++ t) ≡ blanked s ++ blanked t
unfolding blanked
blanked_append [] t = refl
blanked_append (n ∷ s) t = rw (blanked_append s t) (sym (append_assoc (after_blank n) (blanked s) (blanked t)))

blanked_one : (n : ℕ) → blanked (n ∷ []) ≡ after_blank n
unfolding blanked
blanked_one n = append-nil (after_blank n)

-- one more number of a list
pub adds_number :
    {A : Type 0} (f : A → ℕ) (t : List A) (i : ℕ) (x : A) {a b c : Text} → i < length t →
    Adds (blanked (map f (take i t))) a b → Adds (after_blank (f (get_or t i x))) b c →
    Adds (blanked (map f (take (i + 1) t))) a c
adds_number f t i x h p q =
    rw (
      add-one,
      take-suc t i x h,
      map-append f (take i t) (get_or t i x ∷ []),
      blanked_append (map f (take i t)) (f (get_or t i x) ∷ []),
      blanked_one (f (get_or t i x)),
    ) (adds_both p q)

pub puts_length : {t o x : List ℕ} {a e : ℕ} → Puts t o a x e → length x ≡ length o
puts_length {t} {o} {a = a} p = ap length p.room_is ∙ put_length t a o

-- ---- texts one after the other

join_more : (n i : ℕ) (f : ℕ → List ℕ) → join_from (suc n) i f ≡ join_from n i f ++ f (i + n)
unfolding join_from
join_more zero i f = rw (append-nil (f i)) (ap f (omega arith))
join_more (suc n) i f =
    ap (λ (t : List ℕ). f i ++ t) (join_more n (suc i) f)
    ∙ sym (append_assoc (f i) (join_from n (suc i) f) (f (suc i + n)))
    ∙ ap (λ (k : ℕ). (f i ++ join_from n (suc i) f) ++ f k) (omega arith)

pub adds_join :
    (f : ℕ → List ℕ) (i : ℕ) {a b c : Text} → Adds (join_from i 0 f) a b → Adds (f i) b c →
    Adds (join_from (i + 1) 0 f) a c
adds_join f i {b = b} {c = c} p q =
    rw (add-one, join_more i 0 f) (adds_both p (subst (λ (k : ℕ). Adds (f k) b c) (omega arith) q))

-- ---- a refusal's line or an answer

pub line_refused : (n p : ℕ) (t : List ℕ) → (n ≡ 0 → ⊥) → or_refused n p t ≡ refused_text n p
unfolding or_refused
line_refused n p t h = rw (ne_eqb n 0 h)

pub line_answered : (n p : ℕ) (t : List ℕ) → n ≡ 0 → or_refused n p t ≡ t
unfolding or_refused
line_answered n p t h = rw (eq-eqb n 0 h)
