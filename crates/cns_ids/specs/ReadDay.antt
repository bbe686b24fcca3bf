-- Reading a date.
use Rattle.std.specs.Prelude.{ℕ, ◌+◌, ◌*◌, List, Result, Ok, Err, if◌then◌else◌}
use Rattle.cns_ids.specs.Day.{is_real_day, number_of_day, has_day_form, two_digits_at}
use Rattle.cns_ids.specs.declared.day.BadDate.{BadDate}

-- the date with these parts, where the calendar has it in the years 1900 to 2199
abbrev pub day_from : ℕ → ℕ → ℕ → Result ℕ BadDate
day_from year month day = if is_real_day year month day then Ok (number_of_day year month day) else Err (record {})

-- the date that a text of the form dddd-dd-dd is
unfoldable pub read_day : List ℕ → Result ℕ BadDate
read_day t =
    if has_day_form t then day_from (two_digits_at t 0 * 100 + two_digits_at t 2) (two_digits_at t 5) (two_digits_at t 8) else Err (record {})
