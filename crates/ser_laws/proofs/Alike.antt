-- Tapes that are written alike: two that differ only in byte 1 of texts, and two that differ only in the types that they declare. Assumes nothing.
use mathlib.Core.Path.{◌≡◌, refl, sym, ap, ◌∙◌}
use mathlib.Core.Bool.{Bool, true, false, cond}
use mathlib.Core.List.{List}
use Prim.Native.Nat.{ℕ}
use lib.ListN.{length, take}
use lib.Dec.{eqb}
use Rattle.type_book_check.specs.Check.{check_root, at_root}
use Rattle.type_book_check.specs.declared.RootCheck.{RootCheck}
use Rattle.type_book_check.specs.declared.RootCheck.TheVariants as root
use Rattle.tape.specs.declared.record.Record.{Record}
use Rattle.tape_form.specs.Form.{formed}
use Rattle.ser.specs.declared.WriteAnswer.TheVariants.{Done}
use Rattle.ser.specs.Write.{write_ctx, Outcome, refused}
use Rattle.ser.specs.Call.{root_write, book_write, write_call, write_answer_of, output_after}
use Rattle.ser.proofs.Numbers.{write_is}
use Rattle.ser_laws.specs.Alike.{Records, SameButEnd, SameButDeclared}
use Rattle.ser_laws.specs.Laws.{EndsIgnored, DeclaredIgnored, DeclaredAlike}
use Rattle.ser_laws.proofs.Plain.{different}
use Rattle.ser_laws.proofs.WriteAlike.{WrittenAlike, root-same}
use Rattle.ser_laws.proofs.FormAlike.{formed-same}

-- two calls that come to the same for each root
checked-same : (image : List ℕ) (f g : ℕ → Outcome) → ((t : ℕ) → f t ≡ g t) → (x : RootCheck) → at_root (λ k. refused k 0 image) f x ≡ at_root (λ k. refused k 0 image) g x
unfolding at_root
checked-same image f g h (root.Root t) = h t
checked-same image f g h (root.Refused k) = refl

-- ---- byte 1 of texts

ended-alike : (r s : Record) → SameButEnd r s → WrittenAlike r s
ended-alike r s h = record { kind = h.kind; width = h.width; a = h.a; b = h.b }

module _ (tape tape' : List ℕ) (h : Records SameButEnd tape tape') where
  ended_written : Records WrittenAlike tape tape'
  ended_written = record { same_length = h.same_length; each = λ at a l. ended-alike _ _ (h.each at a l) }

  ended_same : (book : List ℕ) (width n room : ℕ) (image text : List ℕ) → book_write (write_ctx book width tape text) n room image ≡ book_write (write_ctx book width tape' text) n room image
  unfolding book_write
  ended_same book width n room image text = rw (formed-same book text tape tape' h, root-same book width text tape tape' ended_written n image)

pub ends_ignored : EndsIgnored
unfolding write_call
ends_ignored buffer len width n image room tape tape' text h =
    checked-same image _ _ (λ t. ended_same tape tape' h (take len buffer) width t room image text) (check_root buffer len n)

-- ---- declared types

declared-alike : (r s : Record) → SameButDeclared r s → WrittenAlike r s
declared-alike r s h = record { kind = h.kind; width = λ z. h.width; a = h.a; b = h.b }

module _ (tape tape' : List ℕ) (h : Records SameButDeclared tape tape') (book : List ℕ) (width room : ℕ) (image text : List ℕ) where
  declared_written : Records WrittenAlike tape tape'
  declared_written = record { same_length = h.same_length; each = λ at a l. declared-alike _ _ (h.each at a l) }

  formed-both : formed book tape text ≡ true → formed book tape' text ≡ true → (n : ℕ) → book_write (write_ctx book width tape text) n room image ≡ book_write (write_ctx book width tape' text) n room image
  unfolding book_write
  formed-both a b n = rw (a, b, root-same book width text tape tape' declared_written n image)

  -- what is accepted has its form
  accepted-by : (n : ℕ) (x y z : Bool)
      → write_answer_of (cond x (cond y (root_write (write_ctx book width tape text) n image) (refused 16 0 image)) (refused 10 0 image)) ≡ Done
      → write_answer_of (cond x (cond z (root_write (write_ctx book width tape' text) n image) (refused 16 0 image)) (refused 10 0 image)) ≡ Done
      → cond x (cond y (root_write (write_ctx book width tape text) n image) (refused 16 0 image)) (refused 10 0 image)
      ≡ cond x (cond z (root_write (write_ctx book width tape' text) n image) (refused 16 0 image)) (refused 10 0 image)
  accepted-by n true true true a b = root-same book width text tape tape' declared_written n image
  accepted-by n true true false a b = different cc
  accepted-by n true false z a b = different cc
  accepted-by n false y z a b = different cc

  accepted-same : (x : RootCheck)
      → write_answer_of (at_root (λ k. refused k 0 image) (λ t. book_write (write_ctx book width tape text) t room image) x) ≡ Done
      → write_answer_of (at_root (λ k. refused k 0 image) (λ t. book_write (write_ctx book width tape' text) t room image) x) ≡ Done
      → at_root (λ k. refused k 0 image) (λ t. book_write (write_ctx book width tape text) t room image) x
      ≡ at_root (λ k. refused k 0 image) (λ t. book_write (write_ctx book width tape' text) t room image) x
  unfolding at_root book_write
  accepted-same (root.Root n) a b = accepted-by n (eqb room (length image)) (formed book tape text) (formed book tape' text) a b
  accepted-same (root.Refused k) a b = refl

pub declared-alike-calls : DeclaredAlike
unfolding write_call
declared-alike-calls buffer len width n image room tape tape' text h a b =
    checked-same image _ _ (formed-both tape tape' h (take len buffer) width room image text a b) (check_root buffer len n)

pub declared_ignored : DeclaredIgnored
unfolding write_call
declared_ignored buffer len width n image output tape tape' text r r' new new' h x a y b =
    let e = accepted-same tape tape' h (take len buffer) width (length output) image text (check_root buffer len n) (sym (write_is _ _ x.answer) ∙ a) (sym (write_is _ _ y.answer) ∙ b) in
    x.output_is ∙ ap (output_after image output) e ∙ sym y.output_is
