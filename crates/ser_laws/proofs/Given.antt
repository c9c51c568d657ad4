-- The laws of a call for a root however it is given, from those for the number of the block that it stands for. Assumes nothing.
use mathlib.Core.Path.{◌≡◌, refl}
use mathlib.Core.Bool.{true}
use Prim.Native.Nat.{◌*◌}
use lib.ListN.{length, take}
use Rattle.type_book_check.specs.declared.GivenRoot.{GivenRoot}
use Rattle.type_book_check.specs.declared.GivenRoot.TheVariants.{Block, Lacking, Refused}
use Rattle.type_book_check.specs.Given.{check_given, at_given}
use Rattle.de_output.specs.Answer.{ReadIs}
use Rattle.de.specs.Walk.{ctx}
use Rattle.de.specs.Read.{read_trace}
use Rattle.ser.specs.Call.{lacking_write, write_call, given_write, WriteIs}
use Rattle.ser_laws.specs.Trip.{is_kept}
use Rattle.ser_laws.specs.Given.{GivenBytesOutside, GivenReadIsFormed, GivenRoundTrip, GivenEndsIgnored, GivenDeclaredIgnored, GivenDeclaredAlike}
use Rattle.ser_laws.proofs.Roots.{block_write, block_trace, block_leaves, block_kept, Accepted, accepted_write, accepted_read}
use Rattle.ser_laws.proofs.Wholes.{bytes-outside}
use Rattle.ser_laws.proofs.ReadForm.{read_is-formed}
use Rattle.ser_laws.proofs.RoundTrip.{round_trip}
use Rattle.ser_laws.proofs.FormAlike.{formed-same}
use Rattle.ser_laws.proofs.Alike.{ends_ignored, declared_ignored, declared-alike-calls}

pub given_bytes_outside : GivenBytesOutside
given_bytes_outside buffer len width root image output tape text r new w d =
    let a : Accepted buffer len root = accepted_write buffer len width root image output tape text r new w d in
    let x : WriteIs (write_call buffer len width a.block image (length output) tape text) image output r new =
    rw (block_write buffer len root a.block a.is width image (length output) tape text) at w in
    rw (block_leaves buffer len root a.block a.is width (length image) tape text) (bytes-outside buffer len width a.block image output tape text r new x d)

pub given_read_formed : GivenReadIsFormed
given_read_formed buffer len width root mem tape txt r tape' txt' k m room p b small h e l =
    let a : Accepted buffer len root = accepted_read buffer len width root mem tape txt r tape' txt' k m h e in
    let x : ReadIs (read_trace buffer len width a.block mem) tape txt r tape' txt' = rw (block_trace buffer len root a.block a.is width mem) at h in
    read_is-formed buffer len width a.block mem tape txt r tape' txt' k m room p b small x e l

pub given_round_trip : GivenRoundTrip
given_round_trip buffer len width root mem tape txt r tape' txt' k m room output w new p b small h e l kept same x =
    let a : Accepted buffer len root = accepted_read buffer len width root mem tape txt r tape' txt' k m h e in
    let y : ReadIs (read_trace buffer len width a.block mem) tape txt r tape' txt' = rw (block_trace buffer len root a.block a.is width mem) at h in
    let q : is_kept (ctx (take len buffer) width) a.block mem ≡ true = rw (block_kept buffer len root a.block a.is width mem) at kept in
    let z : WriteIs (write_call buffer len width a.block mem (length output) (take (24 * k) tape') (take room txt')) mem output w new =
    rw (block_write buffer len root a.block a.is width mem (length output) (take (24 * k) tape') (take room txt')) at x in
    round_trip buffer len width a.block mem tape txt r tape' txt' k m room output w new p b small y e l q same z

pub given_declared_ignored : GivenDeclaredIgnored
given_declared_ignored buffer len width root image output tape tape' text r r' new new' h x c y d =
    let a : Accepted buffer len root = accepted_write buffer len width root image output tape text r new x c in
    let u : WriteIs (write_call buffer len width a.block image (length output) tape text) image output r new =
    rw (block_write buffer len root a.block a.is width image (length output) tape text) at x in
    let v : WriteIs (write_call buffer len width a.block image (length output) tape' text) image output r' new' =
    rw (block_write buffer len root a.block a.is width image (length output) tape' text) at y in
    declared_ignored buffer len width a.block image output tape tape' text r r' new new' h u c v d

-- ---- what comes to the same, also where it is refused

pub given_ends_ignored : GivenEndsIgnored
unfolding given_write lacking_write at_given
given_ends_ignored buffer len width root image room tape tape' text h = by (check_given buffer len root) refl
  where
    by : (k : GivenRoot) → check_given buffer len root ≡ k → given_write buffer len width root image room tape text ≡ given_write buffer len width root image room tape' text
    by (Block t) e =
        rw (block_write buffer len root t e width image room tape text, block_write buffer len root t e width image room tape' text)
        (ends_ignored buffer len width t image room tape tape' text h)
    by Lacking e = rw (e, formed-same (take len buffer) text tape tape' h)
    by (Refused k) e = rw e

pub given_declared_alike : GivenDeclaredAlike
unfolding given_write lacking_write at_given
given_declared_alike buffer len width root image room tape tape' text h a b = by (check_given buffer len root) refl
  where
    by : (k : GivenRoot) → check_given buffer len root ≡ k → given_write buffer len width root image room tape text ≡ given_write buffer len width root image room tape' text
    by (Block t) e =
        rw (block_write buffer len root t e width image room tape text, block_write buffer len root t e width image room tape' text)
        (declared-alike-calls buffer len width t image room tape tape' text h a b)
    by Lacking e = rw (e, a, b)
    by (Refused k) e = rw e
