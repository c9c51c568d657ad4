-- What a name tells of a count of time, at each exit of the functions that compare it. Assumes nothing.
use mathlib.Core.Path.{◌≡◌, refl, sym, ap, ◌∙◌}
use mathlib.Core.Bool.{Bool, true, false}
use mathlib.Core.List.{List, [], ◌∷◌}
use Prim.Native.Nat.{ℕ}
use native.Mathlib.Omega.{arith}
use lib.ListN.{length, get_or}
use Rattle.type_book.specs.Book.{same_name}
use Rattle.type_book.proofs.Names.{same_eq, other_name}
use Rattle.type_names.specs.Text.{ascii_bytes, is_one_of}
use Rattle.time_types.specs.declared.TimeType.TheVariants as time
use Rattle.time_types.specs.Types.{time_type_of}

-- a name that begins otherwise
differs : (name t : List ℕ) → (get_or name 0 0 ≡ get_or t 0 0 → ⊥) → same_name name t ≡ false
differs name t h = sym (other_name name t (λ e. h (ap (λ (l : List ℕ). get_or l 0 0) e)))

no_name : time.NoTime ≡ time_type_of []
unfolding time_type_of is_one_of same_name
no_name = refl

-- none of the ten
module _ (name : List ℕ) where
  pub record Others : Type 0 where
    pub time : same_name name (ascii_bytes "TIME") ≡ false
    pub ltime : same_name name (ascii_bytes "LTIME") ≡ false
    pub tod : same_name name (ascii_bytes "TOD") ≡ false
    pub time_of_day : same_name name (ascii_bytes "TIME_OF_DAY") ≡ false
    pub date : same_name name (ascii_bytes "DATE") ≡ false
    pub dt : same_name name (ascii_bytes "DT") ≡ false
    pub date_and_time : same_name name (ascii_bytes "DATE_AND_TIME") ≡ false
    pub ldate : same_name name (ascii_bytes "LDATE") ≡ false
    pub ldt : same_name name (ascii_bytes "LDT") ≡ false
    pub ltod : same_name name (ascii_bytes "LTOD") ≡ false

  pub no-time : Others → time.NoTime ≡ time_type_of name
  unfolding time_type_of is_one_of
  no-time o = sym (rw (o.time, o.ltime, o.tod, o.time_of_day, o.date, o.dt, o.date_and_time, o.ldate, o.ldt, o.ltod))

  -- a name compared with one of them
  module _ (r : Bool) (h : r ≡ true) where
    is_name : (t : List ℕ) → r ≡ same_name name t → name ≡ t
    is_name t e = same_eq name t (sym e ∙ h)

    pub is-time : r ≡ same_name name (ascii_bytes "TIME") → time.Time ≡ time_type_of name
    unfolding time_type_of is_one_of same_name
    is-time e = rw (is_name (ascii_bytes "TIME") e)

    pub is-tod : r ≡ same_name name (ascii_bytes "TOD") → time.TimeOfDay ≡ time_type_of name
    unfolding time_type_of is_one_of same_name
    is-tod e = rw (is_name (ascii_bytes "TOD") e)

    pub is-time_of_day : r ≡ same_name name (ascii_bytes "TIME_OF_DAY") → time.TimeOfDay ≡ time_type_of name
    unfolding time_type_of is_one_of same_name
    is-time_of_day e = rw (is_name (ascii_bytes "TIME_OF_DAY") e)

    pub is-dt : r ≡ same_name name (ascii_bytes "DT") → time.DateTime ≡ time_type_of name
    unfolding time_type_of is_one_of same_name
    is-dt e = rw (is_name (ascii_bytes "DT") e)

    pub is-date : r ≡ same_name name (ascii_bytes "DATE") → time.DateTime ≡ time_type_of name
    unfolding time_type_of is_one_of same_name
    is-date e = rw (is_name (ascii_bytes "DATE") e)

    pub is-date-and-time : r ≡ same_name name (ascii_bytes "DATE_AND_TIME") → time.DateTime ≡ time_type_of name
    unfolding time_type_of is_one_of same_name
    is-date-and-time e = rw (is_name (ascii_bytes "DATE_AND_TIME") e)

    pub is-ltime : r ≡ same_name name (ascii_bytes "LTIME") → time.LTime ≡ time_type_of name
    unfolding time_type_of is_one_of same_name
    is-ltime e = rw (is_name (ascii_bytes "LTIME") e)

    pub is-ldate : r ≡ same_name name (ascii_bytes "LDATE") → time.LDateTime ≡ time_type_of name
    unfolding time_type_of is_one_of same_name
    is-ldate e = rw (is_name (ascii_bytes "LDATE") e)

    pub is-ldt : r ≡ same_name name (ascii_bytes "LDT") → time.LDateTime ≡ time_type_of name
    unfolding time_type_of is_one_of same_name
    is-ldt e = rw (is_name (ascii_bytes "LDT") e)

    pub is-ltod : r ≡ same_name name (ascii_bytes "LTOD") → time.LTimeOfDay ≡ time_type_of name
    unfolding time_type_of is_one_of same_name
    is-ltod e = rw (is_name (ascii_bytes "LTOD") e)

  -- none of those with its first byte
  pub no-time-name : get_or name 0 0 ≡ 84 → (a b c : Bool) → a ≡ same_name name (ascii_bytes "TIME") → a ≡ false → b ≡ same_name name (ascii_bytes "TOD") → b ≡ false
      → c ≡ same_name name (ascii_bytes "TIME_OF_DAY") → c ≡ false → time.NoTime ≡ time_type_of name
  no-time-name h a b c ea na eb nb ec nc = no-time (record {
    time = sym ea ∙ na;
    tod = sym eb ∙ nb;
    time_of_day = sym ec ∙ nc;
    ltime = differs name _ (λ e. omega arith);
    date = differs name _ (λ e. omega arith);
    dt = differs name _ (λ e. omega arith);
    date_and_time = differs name _ (λ e. omega arith);
    ldate = differs name _ (λ e. omega arith);
    ldt = differs name _ (λ e. omega arith);
    ltod = differs name _ (λ e. omega arith);
  })

  pub no-date-name : get_or name 0 0 ≡ 68 → (a b c : Bool) → a ≡ same_name name (ascii_bytes "DT") → a ≡ false → b ≡ same_name name (ascii_bytes "DATE") → b ≡ false
      → c ≡ same_name name (ascii_bytes "DATE_AND_TIME") → c ≡ false → time.NoTime ≡ time_type_of name
  no-date-name h a b c ea na eb nb ec nc = no-time (record {
    dt = sym ea ∙ na;
    date = sym eb ∙ nb;
    date_and_time = sym ec ∙ nc;
    time = differs name _ (λ e. omega arith);
    ltime = differs name _ (λ e. omega arith);
    tod = differs name _ (λ e. omega arith);
    time_of_day = differs name _ (λ e. omega arith);
    ldate = differs name _ (λ e. omega arith);
    ldt = differs name _ (λ e. omega arith);
    ltod = differs name _ (λ e. omega arith);
  })

  pub no-long-name : get_or name 0 0 ≡ 76 → (a b c d : Bool) → a ≡ same_name name (ascii_bytes "LTIME") → a ≡ false → b ≡ same_name name (ascii_bytes "LDATE") → b ≡ false
      → c ≡ same_name name (ascii_bytes "LDT") → c ≡ false → d ≡ same_name name (ascii_bytes "LTOD") → d ≡ false → time.NoTime ≡ time_type_of name
  no-long-name h a b c d ea na eb nb ec nc ed nd = no-time (record {
    ltime = sym ea ∙ na;
    ldate = sym eb ∙ nb;
    ldt = sym ec ∙ nc;
    ltod = sym ed ∙ nd;
    time = differs name _ (λ e. omega arith);
    tod = differs name _ (λ e. omega arith);
    time_of_day = differs name _ (λ e. omega arith);
    date = differs name _ (λ e. omega arith);
    dt = differs name _ (λ e. omega arith);
    date_and_time = differs name _ (λ e. omega arith);
  })

  -- none with another first byte
  pub no-first : (get_or name 0 0 ≡ 84 → ⊥) → (get_or name 0 0 ≡ 68 → ⊥) → (get_or name 0 0 ≡ 76 → ⊥) → time.NoTime ≡ time_type_of name
  no-first t d l = no-time (record {
    time = differs name _ (λ e. omega arith);
    ltime = differs name _ (λ e. omega arith);
    tod = differs name _ (λ e. omega arith);
    time_of_day = differs name _ (λ e. omega arith);
    date = differs name _ (λ e. omega arith);
    dt = differs name _ (λ e. omega arith);
    date_and_time = differs name _ (λ e. omega arith);
    ldate = differs name _ (λ e. omega arith);
    ldt = differs name _ (λ e. omega arith);
    ltod = differs name _ (λ e. omega arith);
  })

  pub no_byte : length name ≡ 0 → time.NoTime ≡ time_type_of name
  no_byte h = by name h
    where
      by : (l : List ℕ) → length l ≡ 0 → time.NoTime ≡ time_type_of l
      by [] e = no_name
      by (x ∷ xs) e = absurd (omega arith)
