-- What is kept of the image by a whole write. Assumes nothing.
use mathlib.Core.Path.{◌≡◌, refl, sym, ◌∙◌}
use mathlib.Core.Bool.{Bool, true, false, cond}
use mathlib.Core.List.{List}
use Prim.Native.Nat.{ℕ}
use lib.ListN.{length, take}
use lib.Dec.{eqb}
use Rattle.type_book_check.specs.Check.{check_root}
use Rattle.type_book_check.proofs.Valid.{root-valid}
use Rattle.type_book_check.proofs.Roots.{at_each}
use Rattle.resolvers.specs.Resolve.{resolve_alias}
use Rattle.resolvers.specs.declared.Resolved.{Resolved}
use Rattle.resolvers.specs.declared.Resolved.TheVariants as resolved
use Rattle.tape_form.specs.Form.{formed}
use Rattle.tape.specs.declared.cursor.Cursor.{Cursor}
use Rattle.ser.specs.declared.WriteAnswer.{WriteAnswer}
use Rattle.ser.specs.declared.WriteAnswer.TheVariants.{Done, NotFound, Refused}
use Rattle.tape_array_elements.specs.Element.{whole}
use Rattle.ser.specs.Write.{WriteCtx, write_ctx, Outcome, went, refused}
use Rattle.ser.proofs.Numbers.{write_is}
use Rattle.ser.specs.Call.{type_write, root_write_by, root_write, book_write, write_call, WriteIs}
use Rattle.ser_laws.specs.Touched.{Touched, ranges_of, root_touched, leaves_of, OnlyIn}
use Rattle.ser_laws.specs.Laws.{BytesOutside}
use Rattle.ser_laws.proofs.Plain.{different}
use Rattle.ser_laws.proofs.Ranges.{kept-only}
use Rattle.ser_laws.proofs.Outside.{Agrees, walk-agrees}

-- a write that is accepted keeps what is outside the leaves
record Whole (c : WriteCtx) (n : ℕ) (image : List ℕ) (o : Outcome) : Type 0 where
  accepted : (at : Cursor) (new : List ℕ) → o ≡ went at new → OnlyIn (leaves_of c n (length image)) image new

whole-refused : (c : WriteCtx) (n : ℕ) (image : List ℕ) (k b : ℕ) (bytes : List ℕ) → Whole c n image (refused k b bytes)
whole-refused c n image k b bytes = record { accepted = λ at new e. different cc }

whole_if : (c : WriteCtx) (n : ℕ) (image : List ℕ) (t : Bool) (o : Outcome) (k : ℕ) → Whole c n image o → Whole c n image (cond t o (refused k 0 image))
whole_if c n image true o k w = w
whole_if c n image false o k w = whole-refused c n image k 0 image

agrees-only : (image : List ℕ) (o : Outcome) (t : Touched) → Agrees 0 image o t → (at : Cursor) (new : List ℕ) → o ≡ went at new → OnlyIn (ranges_of t) image new
agrees-only image (went here mid) t a at new e =
    let x = a.agrees in
    let q : mid ≡ new = cc in
    rw (x.is, ← q) (kept-only x.kept)
agrees-only image (refused k b mid) t a at new e = different cc

by-root : (c : WriteCtx) (image : List ℕ) (r : Resolved) (at : Cursor) (new : List ℕ) → root_write_by c image r ≡ went at new → OnlyIn (ranges_of (root_touched c (length image) r)) image new
unfolding root_write_by root_touched type_write
by-root c image (resolved.Base t) at new e =
    agrees-only image _ _ (walk-agrees c 64 (whole t) (record { at = 0 }) 0 (length image) image refl tt) at new e
by-root c image (resolved.NotFound b) at new e = different cc
by-root c image resolved.TooLong at new e = different cc

book-whole : (c : WriteCtx) (n room : ℕ) (image : List ℕ) → Whole c n image (book_write c n room image)
unfolding book_write root_write leaves_of
book-whole c n room image =
    whole_if c n image (eqb room (length image)) _ 10
    (whole_if c n image (formed c.book c.tape c.text) _ 16 (record { accepted = by-root c image (resolve_alias c.book c.width n) }))

call_whole : (buffer : List ℕ) (len width n : ℕ) (image : List ℕ) (room : ℕ) (tape text : List ℕ)
    → Whole (write_ctx (take len buffer) width tape text) n image (write_call buffer len width n image room tape text)
unfolding write_call
call_whole buffer len width n image room tape text =
    at_each (Whole (write_ctx (take len buffer) width tape text) n image) _ _ (check_root buffer len n)
    (λ k e. whole-refused _ n image k 0 image)
    (λ m e. let q : m ≡ n = (root-valid buffer len n m e).is in rw q (book-whole (write_ctx (take len buffer) width tape text) n room image))

-- a done answer is that of an accepted write, and the output its bytes
not_done : (b : Bool) (n m : ℕ) → cond b (NotFound m) (Refused n) ≡ Done → ⊥
not_done true n m e = different cc
not_done false n m e = different cc

room-same : (c : WriteCtx) (n room : ℕ) (image : List ℕ) (b : Bool) → eqb room (length image) ≡ b → (at : Cursor) (new : List ℕ) → book_write c n room image ≡ went at new → eqb room (length image) ≡ true
unfolding book_write
room-same c n room image true q at new e = q
room-same c n room image false q at new e = let z : refused 10 0 image ≡ went at new = rw q at e in different cc

call_room : (buffer : List ℕ) (len width n : ℕ) (image : List ℕ) (room : ℕ) (tape text : List ℕ) (at : Cursor) (new : List ℕ)
    → write_call buffer len width n image room tape text ≡ went at new → eqb room (length image) ≡ true
unfolding write_call
call_room buffer len width n image room tape text at new =
    at_each (λ o. o ≡ went at new → eqb room (length image) ≡ true) _ _ (check_root buffer len n)
    (λ k q e. different cc)
    (λ m q e. room-same (write_ctx (take len buffer) width tape text) m room image (eqb room (length image)) refl at new e)

module _ (image output : List ℕ) (r : WriteAnswer) (last : List ℕ) (d : r ≡ Done) (c : WriteCtx) (n : ℕ) where
  by_outcome : (o : Outcome) → WriteIs o image output r last → Whole c n image o
      → ((at : Cursor) (new : List ℕ) → o ≡ went at new → eqb (length output) (length image) ≡ true) → OnlyIn (leaves_of c n (length image)) image last
  by_outcome (went at new) w x room =
      let q : last ≡ new = (rw (room at new refl) at w.output_is) in
      rw q (x.accepted at new refl)
  by_outcome (refused k b new) w x room = absurd (not_done (eqb k 7) k b (sym (write_is _ _ w.answer) ∙ d))

-- the first law
pub bytes-outside : BytesOutside
bytes-outside buffer len width n image output tape text r new w d =
    by_outcome image output r new d (write_ctx (take len buffer) width tape text) n _ w
    (call_whole buffer len width n image (length output) tape text)
    (call_room buffer len width n image (length output) tape text)
