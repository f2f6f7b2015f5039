-- The numbers of document 01's table, and those of the inputs, for the names that the code gives them.
use Rattle.std.specs.Prelude.{ℕ}
use Rattle.descriptor.specs.declared.refusal.Fault.{Fault}
use Rattle.descriptor.specs.declared.refusal.Fault.TheVariants as faults
use Rattle.descriptor.specs.declared.answer.Input.{Input}
use Rattle.descriptor.specs.declared.answer.Input.TheVariants as inputs

abbrev pub number_of : Fault → ℕ
number_of faults.DescriptorLength = 1
number_of faults.Header = 2
number_of faults.SizeBit = 3
number_of faults.Size = 4
number_of faults.Code = 5
number_of faults.Depth = 6
number_of faults.Rows = 7
number_of faults.Body = 8
number_of faults.Count = 9
number_of faults.Contents = 10
number_of faults.Name = 11
number_of faults.AfterTop = 12
number_of faults.DataLength = 20
number_of faults.DataEnd = 21
number_of faults.Length = 22
number_of faults.Enumeration = 23
number_of faults.LeftOver = 25
number_of faults.Step = 30
number_of faults.NoNumber = 31
number_of faults.Difference = 32
number_of faults.Reader = 40
number_of faults.Writer = 41
number_of faults.Missing = 42
number_of faults.Doubled = 43
number_of faults.Type = 44
number_of faults.Room = 50
number_of faults.Taken = 60
number_of faults.NoEntry = 61
number_of faults.NoSpace = 62
number_of faults.Book = 63
number_of faults.NotFound = 64

-- "the input at fault (1 first or rig descriptor, 2 second or reader's descriptor, 3 data, 4 the request; 0 if accepted)"
abbrev pub input_of : Input → ℕ
input_of inputs.First = 1
input_of inputs.Second = 2
input_of inputs.Data = 3
input_of inputs.Request = 4
