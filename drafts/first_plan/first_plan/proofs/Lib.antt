mod Successors
