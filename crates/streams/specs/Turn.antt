-- What follows from one read. The contracts of the private functions of `src/lib.rt` cite these. Assumes nothing.
use Rattle.std.specs.Prelude.{ℕ, ◌+◌, ◌≡◌, Bool, true, false, if◌then◌else◌, nat_lt, ◌==◌, List, length, take, Result, Ok, Err, Some, None}
use Rattle.std.specs.IoError.{error_kind}
use Rattle.std.specs.declared.io.Error.{Error}
use Rattle.std.specs.declared.io.ErrorKind.{ErrorKind}
use Rattle.std.specs.declared.io.ErrorKind.TheVariants.{Interrupted}
use Rattle.streams.specs.declared.Next.{Next}
use Rattle.streams.specs.declared.Next.TheVariants.{Whole, More, Again}
use Rattle.streams.specs.declared.NotWhole.{NotWhole}
use Rattle.streams.specs.declared.NotWhole.TheVariants.{TooLong, Failed}

-- whether an error of this kind is that of a call which a signal interrupted
abbrev pub is_interruption : ErrorKind → Bool
is_interruption Interrupted = true
is_interruption _ = false

-- what follows where so many bytes were moved behind `done` bytes of a buffer of `room`: with room left, no byte is the end of the input; a full buffer may not hold all of it; more than the room holds is a failure
abbrev pub moved_of : ℕ → ℕ → ℕ → Result Next NotWhole
moved_of moved done room =
    if nat_lt (done + moved) room
    then (if moved == 0 then Ok (Whole done) else Ok (More (done + moved)))
    else (if done + moved == room then Err TooLong else Err (Failed None))

-- what follows from a read that answered this: a number of bytes, or an error, which is tried again where a signal interrupted the read
abbrev pub after_of : Result ℕ Error → ℕ → ℕ → Result Next NotWhole
after_of (Ok moved) done room = moved_of moved done room
after_of (Err error) done room = if is_interruption (error_kind error) then Ok (Again error) else Err (Failed (Some error))

-- the promise of `after`
abbrev pub After : Result ℕ Error → ℕ → ℕ → Result Next NotWhole → Type 0
After answer done room r = r ≡ after_of answer done room

-- the promise of `turn`: what follows from some read's answer, and the first `done` bytes of the buffer as they were
pub record Turned (done : ℕ) (before later : List ℕ) (r : Result Next NotWhole) : Type 0 where
  pub answer : Result ℕ Error
  pub follows : After answer done (length later) r
  pub kept : take done later ≡ take done before
