-- What is wrong, in the words of a message.
use Rattle.std.specs.Prelude.{ℕ, List, codes}
use Rattle.job_line.specs.declared.wrong.Wrong.{Wrong}
use Rattle.job_line.specs.declared.wrong.Wrong.TheVariants.{
  BadByte,
  UnknownWord,
  Missing,
  TooMany,
  NotWord,
  NotLocation,
  NotSigned,
  NotMark,
  NotContent,
  SecondLimit,
  SecondCell,
  LimitsCross,
  OutsideLimits,
  UnknownMake,
  BadParameters,
  TooManyPlaces,
  UnfitForPairs,
  NoLimit,
  NoBoard,
  Memory,
}

abbrev pub words_of : Wrong → List ℕ
words_of BadByte = codes "a byte is neither printable ASCII nor blank"
words_of UnknownWord = codes "the first word is none of limit, table, cell and board"
words_of Missing = codes "a field is missing"
words_of TooMany = codes "there is a field too many"
words_of NotWord = codes "a field is no number from 0 to 4294967295"
words_of NotLocation = codes "the location is no number from 0 to 255"
words_of NotSigned = codes "a limit is no number from -2147483648 to 2147483647"
words_of NotMark = codes "the mark is neither free nor fixed"
words_of NotContent = codes "the content is neither unset nor a number from -2147483648 to 2147483647"
words_of SecondLimit = codes "this is the second limit"
words_of SecondCell = codes "this is the second cell of its location"
words_of LimitsCross = codes "the lowest number exceeds the highest"
words_of OutsideLimits = codes "the content lies outside the limits"
words_of UnknownMake = codes "the make is none of sheet, cover, neighbours and pairs"
words_of BadParameters = codes "the make has other parameters"
words_of TooManyPlaces = codes "a stack has more than 1000000 places"
words_of UnfitForPairs = codes "pairs hold only cells that are free, set and of the widest limits"
words_of NoLimit = codes "there is no limit line"
words_of NoBoard = codes "there is no board line"
words_of Memory = codes "out of memory"
