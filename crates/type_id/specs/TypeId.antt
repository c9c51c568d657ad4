-- ADS data type identifiers: the number of each, and which are integers. Assumes nothing.
use Rattle.std.specs.Prelude.{Bool, true, false, cond, ℕ, eqb}
use Rattle.type_id.specs.declared.AdsTypeId.{AdsTypeId}
use Rattle.type_id.specs.declared.AdsTypeId.TheVariants.{Void, Int16, Int32, Real32, Real64, Int8, UInt8, UInt16, UInt32, Int64, UInt64, String, WString, Real80, Bit, MaxTypes, BigType, Unknown}

-- the number of a type id
abbrev pub number_of : AdsTypeId → ℕ
number_of Void = 0
number_of Int16 = 2
number_of Int32 = 3
number_of Real32 = 4
number_of Real64 = 5
number_of Int8 = 16
number_of UInt8 = 17
number_of UInt16 = 18
number_of UInt32 = 19
number_of Int64 = 20
number_of UInt64 = 21
number_of String = 30
number_of WString = 31
number_of Real80 = 32
number_of Bit = 33
number_of MaxTypes = 34
number_of BigType = 65
number_of (Unknown n) = n

-- the type id of a number: the named one of that number, else Unknown
unfoldable pub id_of : ℕ → AdsTypeId
id_of n =
    cond (eqb n 0) Void
    (cond (eqb n 2) Int16
    (cond (eqb n 3) Int32
    (cond (eqb n 4) Real32
    (cond (eqb n 5) Real64
    (cond (eqb n 16) Int8
    (cond (eqb n 17) UInt8
    (cond (eqb n 18) UInt16
    (cond (eqb n 19) UInt32
    (cond (eqb n 20) Int64
    (cond (eqb n 21) UInt64
    (cond (eqb n 30) String
    (cond (eqb n 31) WString
    (cond (eqb n 32) Real80
    (cond (eqb n 33) Bit
    (cond (eqb n 34) MaxTypes
    (cond (eqb n 65) BigType (Unknown n)))))))))))))))))

-- the width in bytes of an integer's id, and 0 of every other
abbrev pub id_width : AdsTypeId → ℕ
id_width Void = 0
id_width Int16 = 2
id_width Int32 = 4
id_width Real32 = 0
id_width Real64 = 0
id_width Int8 = 1
id_width UInt8 = 1
id_width UInt16 = 2
id_width UInt32 = 4
id_width Int64 = 8
id_width UInt64 = 8
id_width String = 0
id_width WString = 0
id_width Real80 = 0
id_width Bit = 0
id_width MaxTypes = 0
id_width BigType = 0
id_width (Unknown n) = 0

-- whether an id is a signed integer's
abbrev pub id_signed : AdsTypeId → Bool
id_signed Void = false
id_signed Int16 = true
id_signed Int32 = true
id_signed Real32 = false
id_signed Real64 = false
id_signed Int8 = true
id_signed UInt8 = false
id_signed UInt16 = false
id_signed UInt32 = false
id_signed Int64 = true
id_signed UInt64 = false
id_signed String = false
id_signed WString = false
id_signed Real80 = false
id_signed Bit = false
id_signed MaxTypes = false
id_signed BigType = false
id_signed (Unknown n) = false
