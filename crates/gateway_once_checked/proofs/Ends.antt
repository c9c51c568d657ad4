-- What the walks of a checked book owe where scratch and list are lent, by the laws of the walks that take an index: theirs, with an index that is
-- long enough. Assumes nothing.
use mathlib.Core.Path.{◌≡◌, refl, sym}
use mathlib.Core.Bool.{Bool, true, false, not, ◌&&◌}
use mathlib.Core.List.{List}
use Prim.Native.Nat.{ℕ}
use lib.ListN.{replicate}
use Rattle.type_index.specs.Index.{index_fits}
use Rattle.resolve_walk.specs.Scratch.{scratch_fits, list_fits}
use Rattle.resolve_missing_types.specs.declared.Missing.{Missing}
use Rattle.resolve_missing_types.specs.declared.Missing.TheVariants as missing
use Rattle.resolve_missing_types.specs.Calls.{MissingIn}
use Rattle.resolve_missing_types.proofs.Ends.{missing_scratch, missing_list_lem, missing_fits_lem}
use Rattle.resolve_read_modify_write.specs.declared.Rmw.{Rmw}
use Rattle.resolve_read_modify_write.specs.declared.Rmw.TheVariants as rmw
use Rattle.resolve_read_modify_write.specs.Calls.{RmwIn}
use Rattle.resolve_read_modify_write.proofs.Ends.{rmw_scratch, rmw_fits_lem}

-- an index that is long enough
spare : List ℕ
spare = replicate 16384 0

long : index_fits spare ≡ true
unfolding spare
long = refl

module _ (book : List ℕ) (width t : ℕ) (sc : List ℕ) (g : Bool) (e : g ≡ scratch_fits sc) where
  pub rmw_short : not g ≡ true → RmwIn (scratch_fits sc) book width t sc (rmw.Refused 6) sc
  rmw_short h = rw long at (rmw_scratch book width t spare sc true (sym long) refl g e h)

  pub rmw_long : not g ≡ false → {sc' : List ℕ} {r : Rmw} → RmwIn true book width t sc r sc' → RmwIn (scratch_fits sc) book width t sc r sc'
  rmw_long h m = rw long at (rmw_fits_lem book width t spare sc true (sym long) refl g e h m)

  module _ (list : List ℕ) where
    pub scratch-short : not g ≡ true → MissingIn (scratch_fits sc && list_fits list) book width t sc list (missing.Refused 6) sc list
    scratch-short h = rw long at (missing_scratch book width t spare sc list true (sym long) refl g e h)

    module _ (s : not g ≡ false) (k : Bool) (q : k ≡ list_fits list) where
      pub list-short : not k ≡ true → MissingIn (scratch_fits sc && list_fits list) book width t sc list (missing.Refused 6) sc list
      list-short h = rw long at (missing_list_lem book width t spare sc list true (sym long) refl g e s k q h)

      pub both_long : not k ≡ false → {sc' list' : List ℕ} {r : Missing} → MissingIn true book width t sc list r sc' list'
          → MissingIn (scratch_fits sc && list_fits list) book width t sc list r sc' list'
      both_long h m = rw long at (missing_fits_lem book width t spare sc list true (sym long) refl g e s k q h m)
