-- Examples of what follows from one read, with 6 bytes read before into a buffer of 16, computed. Assumes nothing.
use mathlib.Core.Path.{◌≡◌, refl, ap}
use lib.IntN.{pos}
use Rattle.std.specs.Prelude.{Ok, Err, Some, None, cond}
use Rattle.std.specs.IoError.{error_kind, os_error_kind}
use Rattle.std.specs.declared.io.Error.{Error}
use Rattle.streams.specs.declared.Next.TheVariants.{Whole, More, Again}
use Rattle.streams.specs.declared.NotWhole.TheVariants.{TooLong, Failed}
use Rattle.streams.specs.Turn.{is_interruption, after_of}

-- no byte: the input has 6
pub example_end : after_of (Ok 0) 6 16 ≡ Ok (Whole 6)
example_end = refl

-- 9 bytes, and one byte of room is left
pub example_more : after_of (Ok 9) 6 16 ≡ Ok (More 15)
example_more = refl

-- 10 bytes fill the buffer
pub example-full : after_of (Ok 10) 6 16 ≡ Err TooLong
example-full = refl

-- 11 bytes are beyond the room
pub example-beyond : after_of (Ok 11) 6 16 ≡ Err (Failed None)
example-beyond = refl

-- no byte, with no room left
pub example_no_room : after_of (Ok 0) 16 16 ≡ Err TooLong
example_no_room = refl

-- an error of the system's whose number is EINTR, 4
pub example_interrupted : (error : Error) → error_kind error ≡ os_error_kind (pos 4) → after_of (Err error) 6 16 ≡ Ok (Again error)
unfolding os_error_kind
example_interrupted error four = ap (λ k. cond (is_interruption k) (Ok (Again error)) (Err (Failed (Some error)))) four

-- one whose number is EIO, 5
pub example_failed : (error : Error) → error_kind error ≡ os_error_kind (pos 5) → after_of (Err error) 6 16 ≡ Err (Failed (Some error))
unfolding os_error_kind
example_failed error five = ap (λ k. cond (is_interruption k) (Ok (Again error)) (Err (Failed (Some error)))) five

-- one whose number is EAGAIN, 11: the input is not ready
pub example-not_ready : (error : Error) → error_kind error ≡ os_error_kind (pos 11) → after_of (Err error) 6 16 ≡ Err (Failed (Some error))
unfolding os_error_kind
example-not_ready error eleven = ap (λ k. cond (is_interruption k) (Ok (Again error)) (Err (Failed (Some error)))) eleven
