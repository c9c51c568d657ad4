-- What read-modify-write reads in a walk. Assumes nothing.
use Rattle.std.specs.Prelude.{Bool, true, false, cond, List, ℕ}
use Rattle.enc_number.specs.Answer.{refusal_of}
use Rattle.enc_number.specs.Refusals as refusal
use Rattle.type_category.specs.declared.type_category.AdsTypeCategory.{AdsTypeCategory}
use Rattle.type_category.specs.declared.type_category.AdsTypeCategory.TheVariants as category
use Rattle.type_category.specs.Category.{category_of}
use Rattle.resolvers.specs.declared.Resolved.TheVariants.{Base, NotFound, TooLong}
use Rattle.resolvers.specs.Resolve.{resolved_numbers}
use Rattle.resolve_walk.specs.Walk.{Walk, over, full, met}
use Rattle.resolve_read_modify_write.specs.declared.Rmw.{Rmw}
use Rattle.resolve_read_modify_write.specs.declared.Rmw.TheVariants as rmw

-- instances of these types keep state that no field shows
abbrev pub keeps_state : AdsTypeCategory → Bool
keeps_state category.FunctionBlock = true
keeps_state category.Program = true
keeps_state category.None = false
keeps_state category.Primitive = false
keeps_state category.Alias = false
keeps_state category.Enum = false
keeps_state category.Array = false
keeps_state category.Struct = false
keeps_state category.Function = false
keeps_state category.SubRange = false
keeps_state category.String = false
keeps_state category.Bitset = false
keeps_state category.Pointer = false
keeps_state category.Union = false
keeps_state category.Reference = false
keeps_state category.Interface = false

-- read-modify-write: the first event that answers
unfoldable pub rmw_of : List ℕ → ℕ → Walk → Rmw
rmw_of book width over = rmw.No
rmw_of book width (full b x) = rmw.Refused refusal.too_many_names
rmw_of book width (met b x (Base t) w) = cond (keeps_state (category_of book width t)) rmw.Yes (rmw_of book width w)
rmw_of book width (met b x (NotFound c) w) = rmw.NotFound c
rmw_of book width (met b x TooLong w) = rmw.Refused (refusal_of (resolved_numbers TooLong))
