-- A value line: its form, and what its fields say.
use Rattle.std.specs.Prelude.{ℕ, zero, suc, List, [], ◌∷◌, Bool, true, false, cond, ◌&&◌, length, drop, get_or, eqb, Float, Option, Some, None}
use Rattle.std.specs.Option.{option_map}
use Rattle.std.specs.Float.Ieee.{of_bits}
use Rattle.std.specs.Float.{binary64}
use Rattle.letters.specs.Letters.{is_way, is_kind, way_of, kind_of}
use Rattle.sheet.specs.Hex.{read_hex}
use Rattle.sheet.specs.Fields.{fields, field}
use Rattle.sheet.specs.declared.value_line.Values.{Values}

-- the byte of a field of one byte; 0 for any other field
unfoldable pub letter : List ℕ → ℕ
letter f = cond (eqb (length f) 1) (get_or f 0 0) 0

abbrev pub is_bits : Option ℕ → Bool
is_bits (Some n) = true
is_bits None = false

abbrev pub bits_or_0 : Option ℕ → ℕ
bits_or_0 (Some n) = n
bits_or_0 None = 0

unfoldable pub is_number : List ℕ → Bool
is_number f = is_bits (read_hex f)

-- the f64 of a field; +0 where it is no number
unfoldable pub number : List ℕ → Float
number f = of_bits binary64 (bits_or_0 (read_hex f))

unfoldable pub all_numbers : List (List ℕ) → Bool
all_numbers [] = true
all_numbers (f ∷ fs) = is_number f && all_numbers fs

-- twelve fields: a way's letter, a kind's letter, ten numbers
unfoldable pub has_form : List ℕ → Bool
has_form l = eqb (length (fields l)) 12 && is_way (letter (field l 0)) && is_kind (letter (field l 1)) && all_numbers (drop 2 (fields l))

-- the fields in the names line's order: way,kind,a,f,lon0,lat0,lat1,lat2,fe,fn,u,v
unfoldable pub read_values : List ℕ → Values
read_values l =
    record {
      way = way_of (letter (field l 0));
      kind = kind_of (letter (field l 1));
      a = number (field l 2);
      f = number (field l 3);
      settings =
          record {
            lon0 = number (field l 4);
            lat0 = number (field l 5);
            lat1 = number (field l 6);
            lat2 = number (field l 7);
            false_easting = number (field l 8);
            false_northing = number (field l 9);
          };
      u = number (field l 10);
      v = number (field l 11);
    }

unfoldable pub read_line : List ℕ → Option Values
read_line l = cond (has_form l) (Some (read_values l)) None

-- ---- the reader's steps, of the fields that are left

-- the byte of the first of them; none where none is left, or it is not of one byte
unfoldable pub first_letter : List (List ℕ) → Option ℕ
first_letter [] = None
first_letter (f ∷ fs) = cond (eqb (length f) 1) (Some (letter f)) None

-- the first n of them as numbers; none where fewer are left, or one of them is no number
unfoldable pub first_numbers : ℕ → List (List ℕ) → Option (List Float)
first_numbers zero fs = Some []
first_numbers (suc n) [] = None
first_numbers (suc n) (f ∷ fs) = cond (is_number f) (option_map (λ xs. number f ∷ xs) (first_numbers n fs)) None
