-- The lines of a job in one table (RULES "Job", "Change 2"), and the form and the ranges that a line has by its row.
use Rattle.std.specs.Prelude.{ℕ, Bool, true, false, ◌&&◌, List, [], ◌∷◌, ℤ, pos, neg_ℤ}
use Rattle.numbers.specs.Integer.{between}
use Rattle.query.specs.Range.{coordinate_limit, posts_limit, stops_limit, visits_limit, rounds_limit, axis_cost_limit}
use Rattle.text.specs.Ascii.{bytes, comma, newline}
use Rattle.job_line.specs.Form.{Form, ◌>>=◌, ◌>>◌, return, key, field}

-- ---- the table
-- the kinds of lines
pub data Kind : Type 0 where
  area axis posts post stops stop rounds : Kind

-- the numbers from low to high, both included
pub record Range : Type 0 where
  pub low : ℤ
  pub high : ℤ

-- the ranges of RULES "Deck" and "Job"
abbrev pub coordinates : Range
coordinates = record { low = neg_ℤ (pos coordinate_limit); high = pos coordinate_limit }

abbrev pub visits : Range
visits = record { low = pos 1; high = pos visits_limit }

abbrev pub axis_costs : Range
axis_costs = record { low = pos 1; high = pos axis_cost_limit }

-- a count may be written as 0
abbrev pub up_to : ℕ → Range
up_to most = record { low = pos 0; high = pos most }

-- a row of the table: a line's key, and the range of each of its numbers, in order
pub record Row : Type 0 where
  pub key : List ℕ
  pub ranges : List Range

-- `area=xlo,ylo,xhi,yhi`, `axis=a,b`, `posts=n`, `post=x,y`, `stops=n`, `stop=x,y,visits`, `rounds=n`
abbrev pub row : Kind → Row
row area = record { key = bytes "area="; ranges = coordinates ∷ coordinates ∷ coordinates ∷ coordinates ∷ [] }
row axis = record { key = bytes "axis="; ranges = axis_costs ∷ axis_costs ∷ [] }
row posts = record { key = bytes "posts="; ranges = up_to posts_limit ∷ [] }
row post = record { key = bytes "post="; ranges = coordinates ∷ coordinates ∷ [] }
row stops = record { key = bytes "stops="; ranges = up_to stops_limit ∷ [] }
row stop = record { key = bytes "stop="; ranges = coordinates ∷ coordinates ∷ visits ∷ [] }
row rounds = record { key = bytes "rounds="; ranges = up_to rounds_limit ∷ [] }

-- ---- a line by its row
-- the byte that ends a number: a comma where others follow, byte 10 behind the last
abbrev pub end_of : {A : Type 0} → List A → ℕ
end_of [] = newline
end_of (other ∷ others) = comma

-- as many numbers as ranges, each with its end
unfoldable pub numbers : List Range → Form (List ℤ)
unfolding field return ◌>>=◌
numbers [] = return []
numbers (range ∷ others) = do
  n ← field (end_of others)
  ns ← numbers others
  return (n ∷ ns)

-- the key, then the numbers
unfoldable pub form_of : Row → Form (List ℤ)
unfolding bytes key numbers ◌>>◌
form_of row = do
  key row.key
  numbers row.ranges

-- whether a number is in its range; refusal 3 is of one that is not
unfoldable pub in_range : Range → ℤ → Bool
unfolding between
in_range range n = between range.low range.high n

-- as many numbers as ranges, each in its own
unfoldable pub in_ranges : List Range → List ℤ → Bool
unfolding in_range
in_ranges [] [] = true
in_ranges [] (n ∷ ns) = false
in_ranges (range ∷ ranges) [] = false
in_ranges (range ∷ ranges) (n ∷ ns) = in_range range n && in_ranges ranges ns
