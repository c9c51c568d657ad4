-- The trace of a whole read (document 01: deserializer.rs, "Refusal table"). Assumes nothing.
use Rattle.std.specs.Prelude.{List, ℕ, take}
use Rattle.enc_number.specs.Refusals as refusal
use Rattle.type_book_check.specs.Check.{check_root, at_root}
use Rattle.type_book_check.specs.Given.{Given, lacking_root, check_given, at_given}
use Rattle.resolvers.specs.Resolve.{resolve_alias, resolved_numbers}
use Rattle.resolvers.specs.declared.Resolved.{Resolved}
use Rattle.resolvers.specs.declared.Resolved.TheVariants as resolved
use Rattle.de_output.specs.Trace.{Trace, refuse}
use Rattle.tape_array_elements.specs.Element.{whole}
use Rattle.de.specs.Walk.{Ctx, ctx, typed_of, refuse_by, read_walk}

-- by what the aliases of root block n come to: its value, with 64 levels; or 7 with its block, or 8
unfoldable pub root_by : Ctx → ℕ → List ℕ → Resolved → Trace
root_by c n mem (resolved.Base t) = read_walk c 64 (whole (typed_of c n t)) mem
root_by c n mem (resolved.NotFound b) = refuse_by (resolved_numbers (resolved.NotFound b))
root_by c n mem resolved.TooLong = refuse_by (resolved_numbers resolved.TooLong)

-- what is read of root block n: its aliases are resolved first
unfoldable pub root_trace : Ctx → ℕ → List ℕ → Trace
root_trace c n mem = root_by c n mem (resolve_alias c.book c.width n)

-- what a call reads, 1 to 5 before the walk: a lent buffer with the book's length, the pointer width, the root's number, the memory
unfoldable pub read_trace : List ℕ → ℕ → ℕ → ℕ → List ℕ → Trace
read_trace buffer len width n mem = at_root (λ k. refuse k 0) (λ t. root_trace (ctx (take len buffer) width) t mem) (check_root buffer len n)

-- the same for a root however it is given: a name that the book lacks is 7 with the number of a lacking root. `read_trace` is its instance for a number
unfoldable pub given_trace : List ℕ → ℕ → ℕ → Given → List ℕ → Trace
given_trace buffer len width root mem =
    at_given (λ k. refuse k 0) (refuse refusal.not_found lacking_root) (λ t. root_trace (ctx (take len buffer) width) t mem) (check_given buffer len root)
