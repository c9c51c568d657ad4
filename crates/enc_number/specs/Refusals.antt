-- The refusals by the papers' numbers, each written here alone: the definitions of the calls name them. Assumes nothing.
use Rattle.std.specs.Prelude.{ℕ}

-- 1: the book is not whole blocks, has too many, or passes its buffer
abbrev pub wrong_length : ℕ
wrong_length = 1

-- 2: a block's sum differs
abbrev pub wrong_sum : ℕ
wrong_sum = 2

-- 3: a block's form or its place
abbrev pub wrong_form : ℕ
wrong_form = 3

-- 4: two types of one name
abbrev pub doubled_name : ℕ
doubled_name = 4

-- 5: the root is no type block
abbrev pub wrong_root : ℕ
wrong_root = 5

-- 6: too few numbers are lent
abbrev pub too_few_lent : ℕ
too_few_lent = 6

-- 7: a type name that is not in the book
abbrev pub not_found : ℕ
not_found = 7

-- 8: a chain that is too long
abbrev pub chain_too_long : ℕ
chain_too_long = 8

-- 9: a name too many
abbrev pub too_many_names : ℕ
too_many_names = 9

-- 10: a number of bytes that does not fit
abbrev pub wrong_size : ℕ
wrong_size = 10

-- 11: an id that can't be read
abbrev pub unreadable : ℕ
unreadable = 11

-- 12: an enum value without an entry
abbrev pub no_entry : ℕ
no_entry = 12

-- 13: the pointer width is not 2, 4 or 8
abbrev pub wrong_width : ℕ
wrong_width = 13

-- 14: level 65
abbrev pub too_deep : ℕ
too_deep = 14

-- 15: what is written to is too short
abbrev pub no_room : ℕ
no_room = 15

-- 16: the tape is not well formed
abbrev pub wrong_tape : ℕ
wrong_tape = 16

-- 17: the value does not go with the type
abbrev pub wrong_type : ℕ
wrong_type = 17

-- 18: a key or an entry whose name the type has not
abbrev pub no_such_name : ℕ
no_such_name = 18

-- 19: an integer outside the range of its type
abbrev pub out_of_range : ℕ
out_of_range = 19

-- 23: a root's name that is not of the form (change request 5)
abbrev pub wrong_root_name : ℕ
wrong_root_name = 23

-- 24: no count or no moment of that type (change request 7)
abbrev pub no_moment : ℕ
no_moment = 24
